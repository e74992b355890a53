pub mod FaceLemmas
pub mod ItemLemmas
pub mod LogLemmas
pub mod PlaceLemmas
pub mod RuleLemmas
