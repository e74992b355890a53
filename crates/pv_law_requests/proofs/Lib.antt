pub mod OnceLemmas
pub mod OwnEvents
pub mod RequestLemmas
pub mod TraceLemmas
