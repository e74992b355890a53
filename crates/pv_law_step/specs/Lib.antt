pub mod Appends
pub mod Examples
pub mod GrantCases
pub mod LockCases
pub mod OutcomeCases
pub mod StartCases
pub mod VoteCases
