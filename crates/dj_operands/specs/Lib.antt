-- What the functions of the crate promise each other and the layer above; what instructions do is told in `dj_bytecode`.
pub mod Replies
pub mod Stacks
pub mod Families
