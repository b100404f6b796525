pub mod Answer
pub mod Facts
pub mod Faults
