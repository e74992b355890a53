pub mod Asking
pub mod Coming
pub mod Rings
pub mod Traffic
