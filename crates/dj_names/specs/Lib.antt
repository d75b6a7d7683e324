-- What the public contracts rest on, in reading order.
pub mod Types
pub mod ClassNames
pub mod Descriptors
pub mod Utf8
pub mod Faults
pub mod Identifiers
pub mod Sayable
pub mod MethodNames
pub mod Shown
pub mod Headers
pub mod Assignable
-- What the functions inside the crate promise each other.
pub mod Reading
-- How shared values are kept.
pub mod formers
