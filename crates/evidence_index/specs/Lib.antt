pub mod Lookups
pub mod Evidence
pub mod Caa
pub mod Noting
