pub mod TokenView
pub mod ReadingSteps
pub mod Words
pub mod CursorView
pub mod ChainView
pub mod ParserView
pub mod ReadingPrograms
pub mod Refusals
