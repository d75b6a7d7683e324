pub mod LearningLemmas
pub mod WantedLemmas
pub mod NamedLemmas
pub mod CoreKindTests
pub mod ClashLemmas
pub mod FillLemmas
