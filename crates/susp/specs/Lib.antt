pub mod Dozes
pub mod Checks
pub mod Sleeps
pub mod Wakes
