pub mod Fields
pub mod Frames
pub mod Head
pub mod Stream
