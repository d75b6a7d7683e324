-- What the public contracts rest on, in reading order.
pub mod Trees
pub mod Items
pub mod NameText
pub mod ExpText
pub mod StmText
pub mod UnitText
pub mod WellFormedTrees
pub mod WellFormed
pub mod Weight
