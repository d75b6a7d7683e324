pub mod RowLemmas
pub mod PlaceLemmas
pub mod PathLemmas
pub mod TableLemmas
pub mod HeaderLemmas
pub mod TypeViews
