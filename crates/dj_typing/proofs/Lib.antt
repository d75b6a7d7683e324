pub mod WordLemmas
mod Examples
