pub mod Answer
pub mod Line
pub mod Sessions
pub mod Steps
pub mod Turns
