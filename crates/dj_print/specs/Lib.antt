-- What the functions inside the crate promise each other.
pub mod Outs
pub mod OutLaws
pub mod Spelled
