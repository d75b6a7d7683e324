-- What the public contracts rest on, in reading order.
pub mod Search
pub mod Own
pub mod Found
pub mod Access
pub mod Inherited
pub mod Choice
pub mod Kinds
-- What the functions inside the crate promise each other.
pub mod Deciding
pub mod Asking
pub mod Single
