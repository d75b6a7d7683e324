pub mod Wanting
pub mod Moving
pub mod Constructing
pub mod Reading
pub mod Giving
