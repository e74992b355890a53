pub mod Bays
pub mod LookText
pub mod ShowError
pub mod Showing
pub mod SiteText
