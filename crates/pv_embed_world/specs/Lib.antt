pub mod Advance
pub mod Faults
pub mod Reading
pub mod Run
pub mod World
pub mod WorldView
