-- What the public contracts rest on, in reading order; Loading is how they say it.
pub mod HeldFiles
pub mod Loads
pub mod Loading
