pub mod Held
pub mod Kept
pub mod PlacesView
pub mod Promise
pub mod Refusals
pub mod Settling
pub mod StandingHere
pub mod Writes
