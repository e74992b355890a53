pub mod AllSums
pub mod Repeats
pub mod Sums
