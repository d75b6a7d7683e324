pub mod FaultLemmas
mod Examples
