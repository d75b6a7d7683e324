-- What is asked of code, and the laws.
pub mod Standing
