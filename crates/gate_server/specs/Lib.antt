pub mod Conf
pub mod Session
pub mod Run
pub mod Exit
