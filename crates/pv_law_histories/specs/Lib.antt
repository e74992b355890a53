pub mod Course
pub mod Examples
pub mod Fitting
pub mod History
pub mod Merge
pub mod Peeks
pub mod Posting
