pub mod Armed
pub mod Reading
