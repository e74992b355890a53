pub mod Compact
pub mod Examples
pub mod Given
pub mod Kept
pub mod Naive
pub mod StandsFor
pub mod Worlds
