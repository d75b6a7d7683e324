-- What the public contracts rest on, in reading order.
pub mod Comparisons
pub mod Unborn
pub mod OwnCalls
pub mod Beginning
pub mod Large
-- What the functions inside the crate promise each other.
pub mod Births
pub mod Leasts
