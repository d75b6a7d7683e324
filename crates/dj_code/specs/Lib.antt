-- What the public contracts rest on, in reading order.
pub mod CodeContent
pub mod MethodCode
pub mod Targets
pub mod ReadCode
-- What the crate keeps to itself.
pub mod Checks
