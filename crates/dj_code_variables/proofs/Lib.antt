pub mod Places
pub mod Bottoms
pub mod Finding
pub mod Writing
pub mod Storing
pub mod Walked
