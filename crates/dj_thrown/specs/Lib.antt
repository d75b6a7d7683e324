-- What the contracts rest on, in reading order; the walk over a body is the program's own, and needs no reading.
pub mod Settings
pub mod Listed
pub mod Assigning
pub mod Throws
pub mod Catching
pub mod Bodies
pub mod Walks
