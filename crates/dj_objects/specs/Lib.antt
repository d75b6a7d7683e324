-- What the functions of the crate promise, in reading order; what operations and states of a run mean is told in `dj_meaning`.
pub mod Replies
pub mod Runs
