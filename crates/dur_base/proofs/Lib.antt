pub mod FieldNumbers
pub mod Layouts
pub mod OctetLists
pub mod SameSets
pub mod WordBits
