pub mod Breaks
pub mod Plan
pub mod Prefix
pub mod Records
pub mod Whole
