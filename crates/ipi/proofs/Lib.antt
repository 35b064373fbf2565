pub mod Keeps
pub mod Parting
pub mod Alone
pub mod Computed
pub mod Copying
