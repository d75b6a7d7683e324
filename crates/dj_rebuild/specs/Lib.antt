-- What the public contracts rest on, in reading order.
pub mod Targets
pub mod Slots
pub mod Stores
pub mod Advancing
pub mod Walking
pub mod Leaving
