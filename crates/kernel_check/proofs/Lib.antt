mod Simple
pub mod Looking
pub mod Telling
pub mod Naming
pub mod Leading
pub mod HartStates
pub mod Ending
pub mod Bounding
