pub mod Broken
pub mod Reading
pub mod SeenBefore
