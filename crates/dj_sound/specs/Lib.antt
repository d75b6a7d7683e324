-- What the laws say, in reading order.
pub mod States
pub mod Runs
