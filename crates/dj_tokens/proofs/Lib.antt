pub mod WordsLemmas
pub mod NamesLemmas
pub mod TypesLemmas
pub mod TypeViews
pub mod Runs
pub mod KeywordLemmas
