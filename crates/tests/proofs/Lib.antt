pub mod Empty
pub mod Rows
