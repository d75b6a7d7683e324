-- What the public contracts rest on.
pub mod Layout
pub mod Parts
pub mod Passes
pub mod Whole
-- What the crate keeps to itself: laws of every layout, and the worked example.
pub mod Exact
pub mod Example
