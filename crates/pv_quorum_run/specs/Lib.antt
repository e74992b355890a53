pub mod Cells
pub mod Ends
pub mod Happening
pub mod LineView
pub mod Mail
pub mod Marks
pub mod Stands
