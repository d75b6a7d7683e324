-- What is printed of methods whose code is one block.
pub mod Decompiled
