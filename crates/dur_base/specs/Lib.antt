pub mod Fields
pub mod Goodness
pub mod Layout
pub mod Names
pub mod NumberSets
