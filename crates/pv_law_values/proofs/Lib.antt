pub mod ChoiceLemmas
pub mod NewestLemmas
pub mod RecordsMore
pub mod SerialLemmas
pub mod ShownMore
pub mod SupportLemmas
