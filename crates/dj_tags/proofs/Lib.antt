pub mod Superclasses
pub mod Assignable
pub mod SlotLemmas
