pub mod Alike
-- Searches over lists of numbers below bounds.
pub mod Searches
-- Whether a sector is a record, or a content a board's.
pub mod Records
pub mod Contents
-- Why a disk is not seen, and that it was read alone.
pub mod Seeing
-- Why the memory of an image is not read, and what reading it does to the disk.
pub mod Recalling
