pub mod Slips
pub mod Form
pub mod Checking
pub mod Nights
pub mod Determined
pub mod Vouched
pub mod Holding
pub mod Codes
