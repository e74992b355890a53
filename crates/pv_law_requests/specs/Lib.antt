pub mod Requests
pub mod RunTraces
