pub mod Disks
pub mod Launching
pub mod Ordered
pub mod Starting
pub mod Work
