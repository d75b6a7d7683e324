-- What the public contracts rest on, in reading order.
pub mod Instructions
pub mod RawInstructions
pub mod PoolNames
pub mod AloneOpcodes
pub mod Jumps
pub mod PoolMeanings
pub mod Meanings
pub mod Listing
-- What the functions inside the crate promise each other.
pub mod PoolParts
pub mod Answers
pub mod Reads
pub mod Places
