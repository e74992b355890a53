pub mod Histories
pub mod Refused
pub mod Waits
