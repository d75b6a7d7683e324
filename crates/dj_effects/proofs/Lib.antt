pub mod Stacking
pub mod Lists
mod StackWords
mod Replacing
mod Examples
