-- The body of a method from the tree of its graph, in reading order.
pub mod Returning
pub mod Labels
pub mod Declaring
pub mod Passes
pub mod Occurring
pub mod Entries
pub mod Starting
pub use Rattle.dj_declare.specs.ThrownBodies
pub use Rattle.dj_declare.specs.Bodies
pub use Rattle.dj_declare.specs.Running
pub use Rattle.dj_declare.specs.Widens
pub use Rattle.dj_declare.specs.Values
pub use Rattle.dj_declare.specs.Laws
pub use Rattle.dj_declare.specs.Formed
