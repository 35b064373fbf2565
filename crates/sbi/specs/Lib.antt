pub mod Resets
pub mod Words
pub mod Helds
