pub mod Identifiers
pub mod Parts
pub mod Contents
pub mod Names
pub mod Seen
pub mod Rules
pub mod Lint
pub mod View
