-- What the public contracts rest on.
pub mod Known
