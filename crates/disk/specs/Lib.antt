pub mod Laws
pub mod WriteLog
pub mod Calls
pub mod Facts
pub mod FaultState
pub mod Moments
