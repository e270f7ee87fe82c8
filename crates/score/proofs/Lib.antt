pub mod Everywhere
pub mod TableRules
pub mod CharacterCosts
pub mod Scores
pub mod Metric
pub mod Passing
pub mod Places
pub mod Codes
pub mod Accepted
pub mod Determined
mod Examples
