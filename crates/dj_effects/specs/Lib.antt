-- What the public contracts rest on, in reading order.
pub mod Works
pub mod Spelled
pub mod Rows
pub mod Operands
pub mod Effects
-- What the crate keeps to itself.
pub mod Stacked
pub mod Doing
