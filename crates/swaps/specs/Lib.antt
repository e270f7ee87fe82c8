pub mod Walks
pub mod Second
pub mod Nights
pub mod Places
pub mod Rooms
pub mod Turning
pub mod Found
pub mod Entries
