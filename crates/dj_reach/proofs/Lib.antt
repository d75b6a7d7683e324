mod Truths
pub mod JumpLemmas
mod ReachLaw
mod CheckLemmas
mod Examples
