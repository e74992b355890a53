pub mod Calls
pub mod Hosted
pub mod HostedView
pub mod Life
pub mod Opening
