mod ClosingLemmas
mod DealingLemmas
mod ListLemmas
mod SeatedLemmas
mod ServingLemmas
