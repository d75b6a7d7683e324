-- What the contracts rest on, in reading order; how many places a tree has is its weight, of `dj_syntax`.
pub mod Rules
pub mod Places
pub mod Constants
pub mod Surroundings
