-- What the contracts rest on, in reading order; the walk over expressions is the program's own, and needs no reading.
pub mod Conditions
pub mod Reads
pub mod Walks
