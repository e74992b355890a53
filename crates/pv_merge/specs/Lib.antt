pub mod Moments
pub mod Numbers
