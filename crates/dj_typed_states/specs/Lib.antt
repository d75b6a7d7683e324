-- What the public contracts rest on, in reading order.
pub mod Shapes
pub mod Facts
pub mod Held
pub mod Wanted
