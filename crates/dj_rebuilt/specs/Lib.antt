-- What the public contracts rest on, in reading order.
pub mod Nodes
pub mod Locals
pub mod Moving
pub mod Sorts
pub mod Rebuilding
pub mod Standing
pub mod Located
pub mod Known
pub mod Alike
