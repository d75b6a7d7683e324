-- Lemmas, in reading order.
pub mod Showing
mod Asking
mod FieldLemmas
mod MethodLemmas
mod AboveLemmas
mod JudgingLemmas
mod LackingLemmas
pub mod OneWay
mod ExactlyLemmas
mod StoreLemmas
mod TellingLemmas
