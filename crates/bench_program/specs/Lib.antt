pub mod Faults
pub mod Usage
pub mod Written
pub mod Orders
pub mod Taps
pub mod Digests
pub mod Progress
