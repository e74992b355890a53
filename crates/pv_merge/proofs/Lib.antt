pub mod FittingLemmas
pub mod HistoryLemmas
pub mod NumberLemmas
