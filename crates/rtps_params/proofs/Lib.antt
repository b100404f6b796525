pub mod Next
pub mod Loop
pub mod OneReading
pub mod Back
