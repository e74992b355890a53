pub mod Appending
pub mod LogContents
pub mod Roots
pub mod Stages
pub mod TwoAreas
pub mod Worked
