-- Constructors whose code is one block, in reading order.
pub mod Opening
pub mod Shown
