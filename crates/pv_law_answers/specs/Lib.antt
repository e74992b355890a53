pub mod Example
pub mod Numbers
pub mod Orders
pub mod Reported
pub mod Settling
