pub mod Marks
pub mod Good
pub mod Pieces
pub mod Words
pub mod Places
pub mod Runs
pub mod Whole
pub mod Once
