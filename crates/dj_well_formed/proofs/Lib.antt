pub mod EmptyLists
pub mod GroupTests
pub mod HelperNames
pub mod ListTests
pub mod SameLists
pub mod JoinedNames
