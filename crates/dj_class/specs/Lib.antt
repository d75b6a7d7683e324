-- What the public contracts rest on, in reading order.
pub mod Members
pub mod FileFormat
pub mod Described
pub mod FaultOf
pub mod Views
-- What the crate keeps to itself.
pub mod FileParts
