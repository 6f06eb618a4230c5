pub mod Words
pub mod Reading
pub mod Callers
pub mod Members
pub mod Rules
pub mod Meaning
