mod ToldLemmas
mod ThrownLaw
mod CheckLemmas
mod CheckedLemmas
pub mod ListedLemmas
mod ListLemmas
mod EscapingLemmas
mod Examples
