-- What the public contracts rest on.
pub mod Signatures
-- What the functions inside the crate promise each other.
pub mod Spelled
pub mod Numbers
pub mod Keys
pub mod Standing
