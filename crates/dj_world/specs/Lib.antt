-- What the public contracts rest on, in reading order.
pub mod CoreKinds
pub mod Clashes
pub mod Named
pub mod Worlds
pub mod Filling
-- What the functions inside the crate promise each other.
pub mod Learning
pub mod Wanting
