mod WroteFront
pub mod PutsLemmas
