pub mod Numbers
pub mod Ranging
