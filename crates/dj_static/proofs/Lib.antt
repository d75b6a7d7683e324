pub mod TypeLemmas
pub mod VisibleLemmas
pub mod ListLemmas
pub mod HeldLemmas
pub mod ChosenLemmas
mod MarkLemmas
pub mod WalkLemmas
pub mod FieldLemmas
pub mod TargetLemmas
pub mod ExpLemmas
