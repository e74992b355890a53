pub mod PassLemmas
pub mod WorldLemmas
