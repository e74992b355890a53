pub mod EntryLemmas
pub mod ListLemmas
pub mod NumberLemmas
pub mod PartLemmas
pub mod PolyvalueLemmas
pub mod SizeLemmas
