pub mod Begins
pub mod Heard
pub mod ScheduleText
pub mod Transcript
