pub mod Misreading
