pub mod Bounded
pub mod Parsing
