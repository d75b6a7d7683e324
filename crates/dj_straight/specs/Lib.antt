-- What the public contracts rest on, in reading order.
pub mod Straight
pub mod StraightMethod
pub mod DeclaredMethods
pub mod Judged
-- What the functions inside the crate promise each other.
pub mod Ints
pub mod Rebuilding
