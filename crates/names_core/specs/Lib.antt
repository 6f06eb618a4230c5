pub mod Address
pub mod Index
pub mod Label
pub mod Name
pub mod Reserved
pub mod Suffix
pub mod Target
