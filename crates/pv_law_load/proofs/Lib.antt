pub mod EntryLemmas
pub mod SendLemmas
