pub mod Calls
pub mod CommandLine
pub mod Commands
pub mod LateStatus
pub mod Options
pub mod Status
