-- How contracts say where statements stand, and the walk over a body, which is the program's own, and needs no reading.
pub mod Views
pub mod Walks
pub mod Seen
