-- How contracts speak of scopes; which scopes there are is told in `dj_meaning`.
pub mod Parameters
pub mod Keeping
