pub mod Along
pub mod Lines
pub mod Standing
pub mod Words
