-- The lemmas of this crate.
pub mod MarkLemmas
pub mod WantLemmas
pub mod PlanLemmas
pub mod FitLemmas
