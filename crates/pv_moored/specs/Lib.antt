pub mod Opening
pub mod Reached
