pub mod Answers
pub mod Arrivals
pub mod Given
pub mod Heads
pub mod Looks
pub mod Posting
pub mod Telling
