-- What the public contracts rest on, in reading order.
pub mod Control
pub mod Edges
pub mod Starts
pub mod Births
-- What the functions inside the crate promise each other.
pub mod Marks
pub mod Walking
