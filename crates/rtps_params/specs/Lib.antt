pub mod Table
pub mod Meaning
pub mod Lists
pub mod OneReading
pub mod Reading
pub mod Writing
