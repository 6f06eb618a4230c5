pub mod Said
pub mod Rules
pub mod Good
