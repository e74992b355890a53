pub mod Cases
pub mod CasesView
pub mod Condition
pub mod Held
pub mod Script
pub mod Words
