pub mod Heads
pub mod Trees
pub mod Readings
pub mod Views
pub mod Paths
pub mod Faults
pub mod Inversion
