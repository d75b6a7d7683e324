-- What the theorem says, in reading order; what the rules say of statements is told last.
pub mod NeverStuck
pub mod Ways
pub mod Flows
