pub mod Ballot
pub mod Decider
pub mod Record
pub mod Sound
pub mod Steps
pub mod Undisturbed
pub mod World
