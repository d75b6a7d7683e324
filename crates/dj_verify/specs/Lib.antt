-- What the public contracts rest on, in reading order.
pub mod Rules
pub mod Table
pub mod Verified
pub mod Tabled
-- What the crate keeps to itself.
pub mod Frames
pub mod Checking
pub mod Landings
