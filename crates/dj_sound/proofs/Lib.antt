pub mod Instructions
pub mod Starts
pub mod Runs
mod Examples
