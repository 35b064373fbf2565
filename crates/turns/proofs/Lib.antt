pub mod Asking
pub mod Begun
pub mod OneTurn
pub mod Running
