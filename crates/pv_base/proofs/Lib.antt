-- The lemmas of this crate.
pub mod AnswerLemmas
pub mod AssignmentLemmas
pub mod Basics
pub mod BigEndianLemmas
pub mod ContainsLemmas
pub mod EntryLemmas
pub mod HistorySteps
pub mod MapLemmas
pub mod OrderLemmas
pub mod ResultLemmas
