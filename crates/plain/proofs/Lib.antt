pub mod Numbers
pub mod Following
pub mod Pairings
pub mod Answers
pub mod Steps
pub mod Entry
pub mod Codes
