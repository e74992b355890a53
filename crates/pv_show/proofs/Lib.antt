pub mod FoundLemmas
mod ItemLemmas
pub mod ReadLemmas
pub mod RestLemmas
pub mod ShowLemmas
