pub mod Room
pub mod Block
pub mod Scan
pub mod Search
pub mod DirectHit
pub mod Augmentation
