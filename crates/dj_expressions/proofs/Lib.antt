pub mod OpenLemmas
pub mod MadeLemmas
pub mod ValueLemmas
