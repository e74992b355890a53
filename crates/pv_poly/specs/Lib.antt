pub mod HeldCases
pub mod TreeFalls
pub mod TreeView
