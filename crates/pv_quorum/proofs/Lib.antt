-- The lemmas of this crate.
pub mod DeciderLemmas
pub mod EntryLemmas
pub mod GreaterLemmas
pub mod KnownLemmas
pub mod LearnLemmas
pub mod LogLemmas
pub mod MapLemmas
pub mod ProposalLemmas
pub mod SpellingLemmas
pub mod StepLemmas
pub mod TellLemmas
