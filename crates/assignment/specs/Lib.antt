pub mod Pairings
pub mod Prices
pub mod Amounts
pub mod Padded
