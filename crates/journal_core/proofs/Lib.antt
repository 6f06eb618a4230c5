pub mod Groups
pub mod Gates
pub mod Moments
pub mod Commits
pub mod Appends
