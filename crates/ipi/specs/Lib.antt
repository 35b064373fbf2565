pub mod Ledger
pub mod Pairs
pub mod Seating
pub mod Views
pub mod Copies
