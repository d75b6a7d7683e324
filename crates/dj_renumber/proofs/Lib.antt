pub mod Types
pub mod Numbers
pub mod Lists
pub mod Calls
