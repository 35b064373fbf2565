pub mod Packed
pub mod Ended
pub mod Keeping
pub mod Loads
pub mod Saves
