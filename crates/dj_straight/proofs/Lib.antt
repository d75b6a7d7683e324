pub mod StraightStacks
pub mod StraightBuilt
pub mod StraightLaws
pub mod DeclaredLemmas
pub mod StraightMethodLemmas
pub mod Examples
