pub mod Message
pub mod Law
pub mod Reading
pub mod Reply
pub mod Stream
