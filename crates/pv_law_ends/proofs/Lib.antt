mod LineEnds
pub mod Pairs
mod RunEnds
mod StepEnds
