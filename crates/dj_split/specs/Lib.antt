-- What the public contracts rest on.
pub mod Ranges
pub mod Caught
