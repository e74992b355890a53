pub mod SendLemmas
pub mod SightLemmas
