-- What the functions inside the crate promise each other; what the public one does is told in `dj_meaning`, specs/Meaning.
pub mod Keeping
pub mod Running
