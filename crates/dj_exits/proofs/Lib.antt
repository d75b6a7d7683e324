pub mod Leaving
pub mod Ending
pub mod Labels
pub mod Objects
pub mod Shown
pub mod Located
pub mod Calm
mod Examples
pub mod Declared
pub mod Spending
pub mod Rebuilt
pub mod Straight
