pub mod Fields
pub mod Sizes
pub mod Superblocks
pub mod Records
pub mod Places
pub mod Read
