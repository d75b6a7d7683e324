-- What the public contracts rest on, in reading order.
pub mod Above
pub mod Saying
pub mod Scopes
-- What the functions inside the crate promise each other.
pub mod Gathering
