pub mod Boxes
pub mod Clients
pub mod Closing
pub mod Ended
pub mod Lines
pub mod Standing
