pub mod Profile
pub mod GeneralName
pub mod Sequences
