-- What the functions of the crate promise; what expressions mean is told in `dj_meaning`, specs/Expressions.
pub mod Operands
pub mod Parts
