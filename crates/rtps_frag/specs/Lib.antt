pub mod Bodies
pub mod Marks
pub mod Samples
pub mod Joining
pub mod Asking
pub mod Laws
