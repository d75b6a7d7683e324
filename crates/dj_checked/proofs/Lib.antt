mod OrderLemmas
mod CastingLemmas
mod FlagLemmas
pub mod WholeLemmas
mod ListLemmas
mod PartLemmas
pub mod PassLemmas
mod SuperLemmas
pub mod CheckedLaw
