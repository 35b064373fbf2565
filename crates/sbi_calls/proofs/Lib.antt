pub mod Raised
pub mod Answered
