pub mod Blocked
pub mod Barred
pub mod Masks
pub mod Tests
pub mod Asked
