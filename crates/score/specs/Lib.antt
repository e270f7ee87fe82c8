pub mod Characters
pub mod Score
pub mod ScoreSheet
pub mod Asked
