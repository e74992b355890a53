pub mod Brought
pub mod Inputs
pub mod Lived
pub mod LiveEnds
pub mod Naming
pub mod Told
