pub mod Bare
pub mod Ranges
