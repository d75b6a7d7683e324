-- What a run by blocks is.
pub mod Blocks
