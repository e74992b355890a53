pub mod Boxing
pub mod Counts
pub mod Meeting
pub mod Opened
pub mod Opening
