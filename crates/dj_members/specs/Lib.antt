-- What the contracts rest on: which members there are of each name, and which places of a name are picked.
pub mod Tables
pub mod Names
pub mod Picks
-- What the functions inside the crate promise each other.
pub mod Links
