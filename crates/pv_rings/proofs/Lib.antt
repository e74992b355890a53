pub mod EachLemmas
pub mod RingLemmas
