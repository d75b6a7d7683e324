pub mod StackLemmas
pub mod Moving
pub mod Fitting
pub mod Others
pub mod Wrapping
