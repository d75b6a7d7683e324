-- The rules of typing, in reading order.
pub mod Words
pub mod Sites
pub mod Casting
pub mod Operands
pub mod Expressions
