pub mod Calls
pub mod Answers
pub mod Masks
pub mod Table
