pub mod Engine
pub mod Kept
pub mod Signing
pub mod Gate
pub mod Start
pub mod Justified
