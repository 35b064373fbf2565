pub mod Shifts
pub mod Rows
