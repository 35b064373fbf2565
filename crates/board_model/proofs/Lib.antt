pub mod Attempts
pub mod Console
pub mod Exits
pub mod Steps
pub mod Table
pub mod Written
pub mod Padded
