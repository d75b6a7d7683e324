-- What the public contracts rest on, in reading order.
pub mod CoreClass
pub mod CoreTable
-- What the functions inside the crate promise each other.
pub mod Rows
