pub mod Calls
pub mod Disk
pub mod DiskModel
pub mod Log
pub mod LogModel
pub mod Size
