pub mod GroupSize
pub mod HostFile
pub mod HostLaws
pub mod HostLog
pub mod HostView
pub mod HostWrites
pub mod Waiting
pub mod WaitingView
