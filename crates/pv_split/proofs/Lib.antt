pub mod OutcomeLemmas
pub mod EffectLemmas
pub mod WriteLemmas
pub mod SplitLemmas
pub mod LawLemmas
pub mod SureLemmas
