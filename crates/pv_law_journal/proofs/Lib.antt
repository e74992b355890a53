pub mod Bodies
pub mod ContentsLemmas
mod Decided
pub mod OneAnswer
pub mod SizeLemmas
