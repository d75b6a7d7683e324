pub mod SpelledLemmas
pub mod PuttingLemmas
pub mod NumberLemmas
pub mod KeyLemmas
pub mod StandingLemmas
pub mod RivalLemmas
pub mod Examples
pub mod CountingLemmas
