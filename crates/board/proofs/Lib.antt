mod Mapped
mod Doubted
mod Moments
mod Refused
mod Unmoved
mod Off
mod On
pub mod Rows
mod Opened
pub mod Issued
mod CallsMade
pub mod Few
