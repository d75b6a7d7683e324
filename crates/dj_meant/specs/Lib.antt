-- What a reader has to trust: which members instructions name.
pub mod Meant
