pub mod ArmedLemmas
pub mod GivenLemmas
pub mod LookLemmas
pub mod RecordLemmas
