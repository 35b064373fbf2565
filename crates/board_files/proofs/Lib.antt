mod Beside
mod Pushed
mod Kept
mod KeptFiles
mod BlockBytes
mod InBlocks
pub mod PayloadFaults
pub mod FaultKinds
pub mod FileSectors
pub mod InFolders
