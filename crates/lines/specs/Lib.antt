pub mod Decimal
pub mod Put
pub mod Lines
pub mod Asked
