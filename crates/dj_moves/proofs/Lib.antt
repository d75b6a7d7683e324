pub mod Moving
pub mod Writes
