-- Lemmas.
pub mod Any
pub mod ExactlyLemmas
