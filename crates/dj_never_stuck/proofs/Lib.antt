pub mod Runs
pub mod Flows
pub mod Turns
pub mod Endings
pub mod Values
pub mod Stores
pub mod Calls
pub mod Lists
pub mod Statements
pub mod Bodies
mod Instances
mod Needed
