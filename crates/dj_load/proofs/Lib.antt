pub mod LoadingLemmas
pub mod ReadingLemmas
