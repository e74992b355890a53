-- The lemmas of this crate.
pub mod AnswerLemmas
pub mod ConflictLemmas
pub mod HolderLemmas
pub mod IndexLemmas
pub mod ItemLemmas
pub mod KeyedLemmas
pub mod PutLemmas
