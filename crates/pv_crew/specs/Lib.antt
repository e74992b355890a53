pub mod Asking
pub mod Dealing
pub mod Messages
pub mod Rounds
pub mod Seated
