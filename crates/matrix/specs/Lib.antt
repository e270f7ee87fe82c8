pub mod Limits
pub mod Refusals
pub mod Verdicts
pub mod Tests
pub mod Answers
pub mod Cost
pub mod Asked
