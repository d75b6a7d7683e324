-- The variables of code, in reading order.
pub mod Views
-- What the functions inside the crate promise each other.
pub mod Firsts
pub mod Stores
