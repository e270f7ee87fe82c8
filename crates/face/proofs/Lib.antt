pub mod Determined
pub mod Checks
pub mod Seconds
