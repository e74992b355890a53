pub mod Doubtful
pub mod Frames
pub mod Narrow
pub mod Undelayed
pub mod Undisturbed
