pub mod Corners
pub mod Eventful
pub mod Reached
pub mod Replays
