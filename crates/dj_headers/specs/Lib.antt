-- What the functions inside the crate promise each other; what the public ones do is told in `dj_names`, specs/Headers and specs/Assignable.
pub mod Rows
pub mod Roots
pub mod Table
