-- What the contracts rest on, in reading order, behind `specs/Sets` of `dj_variables` and `specs/Conditions` and `specs/Reads` of `dj_conditions`;
-- the walk over a body is the program's own, and needs no reading.
pub mod Assigned
pub mod Bodies
pub mod Faults
pub mod Walks
