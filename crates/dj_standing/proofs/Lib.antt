pub mod Tags
pub mod Exits
pub mod Places
pub mod Open
pub mod Standing
mod Examples
