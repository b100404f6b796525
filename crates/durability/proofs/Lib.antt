pub mod Lines
pub mod OneLine
pub mod Parses
pub mod Rules
pub mod Spelling
pub mod TopCall
pub mod Values
pub mod Walks
