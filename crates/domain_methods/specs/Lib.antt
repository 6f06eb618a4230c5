pub mod Address
pub mod Cover
pub mod Rules
pub mod Value
