pub mod Answers
pub mod Solve
pub mod Values
pub mod Asked
pub mod WithinLimits
pub mod Stages
pub mod Surcharge
