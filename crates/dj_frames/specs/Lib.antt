-- What the public contracts rest on.
pub mod Frames
-- What the crate keeps to itself.
pub mod SlotTree
pub mod Locals
