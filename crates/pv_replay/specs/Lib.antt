pub mod Content
pub mod Faults
pub mod Left
pub mod Nodes
pub mod Order
pub mod Values
pub mod Refused
