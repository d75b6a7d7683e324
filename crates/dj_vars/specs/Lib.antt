-- Slots and the variables that they are, in reading order.
pub mod Slots
pub mod Naming
pub mod Parameters
pub mod Agreeing
pub mod Saying
