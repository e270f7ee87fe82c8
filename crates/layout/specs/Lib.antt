pub mod Values
pub mod Fields
pub mod Trailers
pub mod Sheets
pub mod Slips
pub mod Asked
pub mod Editions
