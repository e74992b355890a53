pub mod Log
pub mod Opening
pub mod Part
pub mod Peeks
pub mod Rule
pub mod Shelves
