pub mod Shape
pub mod Names
pub mod Csr
pub mod View
pub mod Told
pub mod Form
