pub mod Answer
pub mod Box
pub mod Does
pub mod Outputs
pub mod Stands
pub mod ToldText
