-- Lemmas, in reading order.
pub mod Turned
pub mod Sources
pub mod Lowering
pub mod Joining
pub mod Heights
pub mod Weights
pub mod Falling
pub mod Visiting
pub mod Ways
pub mod Following
pub mod Finishing
