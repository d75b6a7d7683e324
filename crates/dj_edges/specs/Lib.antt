-- Edges between blocks, in reading order.
pub mod Edges
pub mod Entering
pub mod Split
