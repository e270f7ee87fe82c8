pub mod Cuts
pub mod Calls
pub mod Determined
pub mod Later
pub mod Whole
