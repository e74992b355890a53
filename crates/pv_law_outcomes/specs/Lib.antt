pub mod Coherent
pub mod Decided
