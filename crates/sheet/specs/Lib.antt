pub mod Reading
pub mod Settle
pub mod Values
pub mod Asked
pub mod Steps
