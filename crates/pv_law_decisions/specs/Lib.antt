pub mod Lines
pub mod Promises
pub mod Runs
pub mod Scene
