pub mod HeldLemmas
pub mod ItemLemmas
