pub mod Certain
pub mod Examples
pub mod Ready
pub mod Runs
pub mod State
