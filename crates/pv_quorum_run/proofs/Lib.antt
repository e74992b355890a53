mod CellLemmas
pub mod DoneLemmas
mod EventLemmas
mod FitLemmas
mod GiveLemmas
mod HappenLemmas
mod MarkLemmas
mod NewLemmas
mod PlaceLemmas
mod RunLemmas
mod SendLemmas
mod StandLemmas
