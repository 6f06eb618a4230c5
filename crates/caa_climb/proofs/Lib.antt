pub mod Answers
pub mod Bytes
pub mod Domains
pub mod IssueLemmas
pub mod Labels
pub mod ParameterLemmas
pub mod Places
pub mod EmptyNames
