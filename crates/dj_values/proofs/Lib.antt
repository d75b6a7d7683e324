pub mod Growth
pub mod Deciding
pub mod FitsLemmas
