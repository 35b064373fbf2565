pub mod Calls
pub mod FormatSteps
pub mod Steps
pub mod Bounds
pub mod Committing
pub mod Applying
pub mod Opening
pub mod FormatEnds
pub mod Begins
mod Counting
mod LoadBounds
mod LoadSteps
mod LoadEnds
mod Chunks
mod SaveBounds
mod SaveSteps
mod SavingArea
mod SavedRecords
mod SaveEnds
