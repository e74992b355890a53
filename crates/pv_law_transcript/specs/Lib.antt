pub mod Merged
pub mod Written
