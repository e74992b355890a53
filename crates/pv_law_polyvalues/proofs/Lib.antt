pub mod PolyvalueLemmas
pub mod AscendingLemmas
pub mod NameLemmas
pub mod TableLemmas
pub mod ExistenceLemmas
