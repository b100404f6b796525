pub mod Open
pub mod Answers
pub mod Tells
pub mod Stands
