pub mod Calls
pub mod Causes
pub mod Given
pub mod Memory
pub mod Picked
pub mod Sound
pub mod World
