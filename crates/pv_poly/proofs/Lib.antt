pub mod PushedNames
pub mod TopOfTree
