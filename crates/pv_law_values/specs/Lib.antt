pub mod Cut
pub mod Fixed
pub mod Heeds
pub mod Newest
pub mod Unassigned
