-- What the public contract rests on.
pub mod StackMap
-- What the crate keeps to itself.
pub mod Reading
