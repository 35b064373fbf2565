-- In reading order.
-- A file of sectors, and what a crash leaves in it.
pub mod Files
-- The same in a device of larger blocks.
pub mod Blocks
-- The two forms of a disk's file.
pub mod Forms
-- A disk with a file beside it.
pub mod Beside
-- A file in memory.
pub mod Kept
pub mod Named
pub mod Disks
pub mod Faults
-- The disk's file in its folder, and what a crash leaves there.
pub mod Folders
