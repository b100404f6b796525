pub mod RingPlaces
pub mod Knowing
pub mod Learning
pub mod Moving
pub mod Sets
pub mod Missing
pub mod OneSkip
pub mod Between
