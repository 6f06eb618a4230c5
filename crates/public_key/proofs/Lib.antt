pub mod Trees
pub mod Algorithms
