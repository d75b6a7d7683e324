pub mod SetLemmas
mod OrderLemmas
pub mod ListLemmas
