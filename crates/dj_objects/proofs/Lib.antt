pub mod Binding
pub mod TypesAlike
pub mod RunLemmas
pub mod IntLemmas
