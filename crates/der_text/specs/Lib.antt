pub mod Content
pub mod Tree
pub mod View
pub mod Front
pub mod Fault
pub mod Reading
pub mod Part
pub mod Parts
