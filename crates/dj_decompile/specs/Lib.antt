-- What comes of a method.
pub mod Answers
