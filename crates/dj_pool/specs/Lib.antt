-- What the public contracts rest on, in reading order.
pub mod SharedParts
pub mod PoolFormat
pub mod Attributes
-- What a pool tells of a text (`IsReadOf`), and what the crate keeps to itself.
pub mod PoolTable
