pub mod Values
pub mod LittleEndian
pub mod Fields
pub mod Stores
pub mod Trailers
pub mod Sheets
pub mod Slips
mod Examples
