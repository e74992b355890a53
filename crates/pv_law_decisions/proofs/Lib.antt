pub mod FollowLemmas
pub mod LongLemmas
pub mod PromiseLemmas
pub mod SettleLemmas
pub mod SettledLemmas
