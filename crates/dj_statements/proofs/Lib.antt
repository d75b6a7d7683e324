pub mod MadeLemmas
pub mod OpenLemmas
pub mod PlaceLemmas
pub mod StatementSteps
pub mod ValueSteps
