pub mod Paths
pub mod Orders
pub mod Types
pub mod Members
pub mod Choice
pub mod Targets
pub mod Asked
pub mod Roots
mod Examples
