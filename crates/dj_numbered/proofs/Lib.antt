pub mod Assigning
pub mod Throwing
pub mod Acts
pub mod Showing
pub mod Numbering
pub mod Counting
