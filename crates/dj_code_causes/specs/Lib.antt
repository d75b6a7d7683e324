-- What the public contracts rest on, in reading order.
pub mod Places
pub mod Floats
pub mod Dynamics
pub mod Monitors
pub mod NamedIn
pub mod Asked
pub mod Gathered
