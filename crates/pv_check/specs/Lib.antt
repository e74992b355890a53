pub mod Marks
pub mod PlanView
pub mod CheckRefusal
pub mod Fits
pub mod Wants
