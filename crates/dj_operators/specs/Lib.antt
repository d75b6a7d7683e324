-- What the functions of the crate promise, in reading order; what operators and conversions do is told in `dj_meaning`.
pub mod Computed
pub mod Strict
pub mod Numbers
