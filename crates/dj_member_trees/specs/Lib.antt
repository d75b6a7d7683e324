-- What the public contracts rest on, in reading order.
pub mod Fitting
pub mod Writing
pub mod Given
pub mod Calling
pub mod Stepping
pub mod Laws
