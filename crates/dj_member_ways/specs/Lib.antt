-- What stands for the instructions of a method does what they do.
pub mod Holding
