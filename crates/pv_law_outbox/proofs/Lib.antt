pub mod CertainLemmas
pub mod ExampleLemmas
pub mod ReadyLemmas
pub mod RunLemmas
pub mod StateLemmas
