pub mod ArrivalLemmas
pub mod AskedLemmas
pub mod ListLemmas
pub mod PostingLemmas
pub mod TellingLemmas
