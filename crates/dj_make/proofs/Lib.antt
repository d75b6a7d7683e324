pub mod Additions
pub mod Room
