pub mod Memory
pub mod ReadEnd
pub mod SinkEffects
pub mod SourceEffects
pub mod Stream
