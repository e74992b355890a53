pub mod AskedLemmas
pub mod ClosingLemmas
pub mod LineLemmas
mod LookLemmas
pub mod StandLemmas
