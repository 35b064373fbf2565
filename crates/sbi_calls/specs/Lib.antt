pub mod Same
pub mod Words
pub mod Both
pub mod Requests
pub mod Answers
pub mod Steps
pub mod Laws
