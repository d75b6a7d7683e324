pub mod Flags
pub mod Decompiled
