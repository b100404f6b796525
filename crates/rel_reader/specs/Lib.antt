pub mod Knowledge
pub mod Stories
pub mod KnownNumbers
pub mod Skips
pub mod MissingNumbers
pub mod Places
pub mod Windows
pub mod Steps
