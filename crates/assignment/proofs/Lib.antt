pub mod Pairings
pub mod Columns
pub mod Duality
pub mod Square
pub mod Longer
pub mod Amounts
pub mod Padded
