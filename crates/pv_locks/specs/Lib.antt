pub mod GrantAnswer
pub mod Holders
pub mod LockTable
pub mod LocksView
pub mod Planned
pub mod Put
