pub mod Decimal
pub mod Pieces
pub mod Spares
pub mod Ended
pub mod Seconds
pub mod Night
pub mod Printed
mod Examples
