pub mod LineLemmas
pub mod StandingLemmas
pub mod ToldLemmas
