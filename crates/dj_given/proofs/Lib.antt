mod Above
mod Allowed
mod Members
mod Names
pub mod Spelled
pub mod Together
