pub mod FirstLemmas
pub mod ClassCauseLemmas
pub mod FieldCauseLemmas
pub mod LeastLemmas
pub mod HeadLemmas
pub mod BareCauseLemmas
pub mod ToldLemmas
pub mod Examples
