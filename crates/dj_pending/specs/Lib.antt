-- What the public contracts rest on, in reading order.
pub mod Heights
pub mod Trees
pub mod Assigned
pub mod Entries
pub mod Births
pub mod Stacks
pub mod Operands
pub mod Forms
pub mod Building
pub mod Spilling
pub mod Steps
pub mod Shifts
pub mod Strict
pub mod Numbers
