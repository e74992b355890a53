pub mod Choosing
pub mod Held
pub mod Last
pub mod Meanings
pub mod Nodes
pub mod Outcomes
pub mod Settling
