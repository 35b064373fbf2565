pub mod Texts
pub mod Shows
pub mod Machine
pub mod Turns
pub mod Held
pub mod Durables
pub mod Dozes
