pub mod Answer
pub mod Asked
pub mod Causes
pub mod Faults
pub mod Outbox
pub mod Run
pub mod Status
pub mod StatusTexts
