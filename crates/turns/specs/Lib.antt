pub mod Turns
pub mod Many
pub mod Own
pub mod Entries
