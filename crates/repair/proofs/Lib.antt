pub mod Nights
pub mod Mended
pub mod Mending
pub mod Tests
pub mod Repairing
pub mod Codes
pub mod Determined
