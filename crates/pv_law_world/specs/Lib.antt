pub mod EventView
pub mod ExampleLines
pub mod Pumps
pub mod Ranges
pub mod Schedules
pub mod Sites
pub mod Spellings
pub mod Transitions
