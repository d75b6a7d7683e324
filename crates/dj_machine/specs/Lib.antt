-- What the functions inside the crate promise each other; what the public one does is told in `dj_bytecode`, specs/Machine.
pub mod Runs
