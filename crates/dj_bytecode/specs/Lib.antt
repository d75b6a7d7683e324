-- What the public contracts rest on, in reading order.
pub mod Operands
pub mod Calculations
pub mod Shuffles
pub mod Objects
pub mod Meanings
pub mod Machine
pub mod SameShows
