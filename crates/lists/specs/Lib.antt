pub mod Runs
pub mod Sums
pub mod Permutations
pub mod Parts
pub mod Counts
