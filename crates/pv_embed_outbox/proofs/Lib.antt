mod LifeLemmas
mod OpeningLemmas
mod ReleaseLemmas
