pub mod Fits
pub mod Reads
pub mod Script
pub mod Words
