pub mod Audit
pub mod Values
pub mod Asked
