pub mod Examples
pub mod MethodNames
pub mod TreeExamples
pub mod TreeLists
pub mod TreeViews
