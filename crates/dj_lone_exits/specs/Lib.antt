-- Methods of one block, and the law.
pub mod Lone
