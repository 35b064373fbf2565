pub mod Begun
pub mod Crowd
pub mod Race
