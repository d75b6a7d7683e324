-- When blocks are rebuilt to formed trees, in reading order.
pub mod Ruled
pub mod Exits
pub mod Ways
pub mod Laws
pub mod Owned
pub use Rattle.dj_formed.specs.Formed
pub use Rattle.dj_typed.specs.Stores
pub use Rattle.dj_typed.specs.Statements
