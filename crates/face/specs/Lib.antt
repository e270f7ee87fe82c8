pub mod Face
pub mod Seconds
