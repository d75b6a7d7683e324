pub mod KeepingLemmas
mod ParameterLemmas
