pub mod HelperLemmas
pub mod ShowingLemmas
pub mod FlagLemmas
pub mod StableLemmas
pub mod FormedLemmas
pub mod Examples
pub mod ApartLemmas
