pub mod OpView
pub mod ExprView
pub mod ExprFalls
pub mod ProgramView
pub mod ProgramFalls
pub mod CourseView
pub mod ShortCircuit
