pub mod ComingLemmas
pub mod RingLemmas
pub mod TrafficLemmas
