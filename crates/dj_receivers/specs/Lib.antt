-- What the public contracts rest on, in reading order.
pub mod Passing
pub mod Receivers
pub mod OwnCalls
pub mod Passed
pub mod Marked
-- What the functions inside the crate promise each other.
pub mod Steps
pub mod Walks
