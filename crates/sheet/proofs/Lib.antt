pub mod Limits
pub mod Editions
pub mod Passing
pub mod Bare
pub mod Sheets
pub mod Columns
pub mod Solver
pub mod Pairing
pub mod Determined
mod Examples
pub mod Nights
