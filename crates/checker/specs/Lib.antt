pub mod Tests
pub mod Check
pub mod Proven
pub mod Asked
pub mod Scope
pub mod Slacks
pub mod Nights
pub mod PricedNights
