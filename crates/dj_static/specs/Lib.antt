-- What the functions of the crate promise; which types, fields and methods there are is told in `dj_meaning`.
pub mod Views
pub mod Scopes
pub mod Marking
pub mod Walks
pub mod Targets
