pub mod NameTests
pub mod LineLemmas
pub mod TableTests
