pub mod Answer
pub mod History
pub mod Line
pub mod Listing
