-- Constructors whose code is one block, and what is printed of them.
pub mod Shown
