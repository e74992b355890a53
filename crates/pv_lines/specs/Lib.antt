pub mod Lines
pub mod Refusals
pub mod Says
pub mod Spelled
pub mod Words
