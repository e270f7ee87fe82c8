pub mod Orders
pub mod Sums
pub mod Ranges
pub mod Shapes
pub mod Tests
pub mod Bits
pub mod Signs
mod Examples
