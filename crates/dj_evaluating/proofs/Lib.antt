pub mod PartLemmas
pub mod OperandLemmas
pub mod ValuesLemmas
pub mod WholeLemmas
