pub mod Tests
pub mod Repair
pub mod Values
pub mod Repairable
pub mod Asked
pub mod Nights
