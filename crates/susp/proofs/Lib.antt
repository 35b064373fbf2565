pub mod Slept
pub mod Woken
