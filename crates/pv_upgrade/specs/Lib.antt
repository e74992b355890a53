pub mod Finding
pub mod Keeping
pub mod Renewed
pub mod Renewing
pub mod UpgradeText
pub mod Upgrading
