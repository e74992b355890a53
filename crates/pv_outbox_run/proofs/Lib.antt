pub mod CellLemmas
pub mod OutputLemmas
pub mod RunLemmas
