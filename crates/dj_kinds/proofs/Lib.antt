pub mod SearchLemmas
pub mod HeaderLemmas
pub mod PackageLemmas
pub mod PickLemmas
pub mod OwnLemmas
pub mod InheritLemmas
pub mod ChoiceLemmas
pub mod Examples
