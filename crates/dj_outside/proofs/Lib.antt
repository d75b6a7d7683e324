pub mod Asking
pub mod Anywhere
