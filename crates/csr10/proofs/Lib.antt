pub mod Rows
pub mod Targets
pub mod Faults
pub mod OneReading
pub mod Forms
