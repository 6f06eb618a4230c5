pub mod Panel
pub mod Quorum
