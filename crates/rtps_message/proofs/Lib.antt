pub mod Parts
pub mod Runs
pub mod Places
pub mod Good
pub mod Once
pub mod Back
pub mod Again
