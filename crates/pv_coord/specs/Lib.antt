pub mod Answers
pub mod Coordinator
pub mod EntryView
pub mod Place
pub mod Planned
pub mod Work
pub mod WorkCode
