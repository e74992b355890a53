pub mod Acts
pub mod Guards
pub mod Passed
pub mod Seen
pub mod Steps
