pub mod Packed
pub mod Ends
pub mod Next
pub mod Images
pub mod Told
