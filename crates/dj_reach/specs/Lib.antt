-- What the contracts rest on, in reading order; the walk over a body is the program's own, and needs no reading.
pub mod Jumps
pub mod Reach
pub mod Bodies
pub mod Faults
pub mod Walks
