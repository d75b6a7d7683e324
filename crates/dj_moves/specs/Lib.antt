-- What the public contracts rest on.
pub mod Moves
pub mod Laws
