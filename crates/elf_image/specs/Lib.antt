pub mod Fields
pub mod Header
pub mod Program
pub mod Sections
pub mod Symbols
pub mod Kernel
pub mod Loading
