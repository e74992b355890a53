pub mod CanonicalLemmas
pub mod ComparedLemmas
pub mod FilterLemmas
