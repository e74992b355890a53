pub mod CaseTextLemmas
pub mod LineShown
pub mod PieceLemmas
pub mod PlainLemmas
pub mod ShownLemmas
pub mod TextLemmas
