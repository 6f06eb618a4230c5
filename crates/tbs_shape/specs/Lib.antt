pub mod Body
pub mod Shape
pub mod Told
pub mod View
