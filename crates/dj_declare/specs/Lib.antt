-- What the laws rest on, in reading order.
pub mod Lawful
pub mod Laws
pub mod Heads
pub mod Declared
pub mod Constructors
pub mod Breaking
pub mod Initialisers
pub mod Dummies
pub mod Starts
pub mod OpenJumps
pub mod Escapes
pub use Rattle.dj_formed.specs.Formed
pub use Rattle.dj_formed.specs.States
pub use Rattle.dj_typed.specs.Bodies
pub use Rattle.dj_typed.specs.Statements
pub use Rattle.dj_held.specs.Running
pub use Rattle.dj_thrown.specs.Bodies as ThrownBodies
pub use Rattle.dj_assigned.specs.Assigned
pub use Rattle.dj_held.specs.Values
pub use Rattle.dj_widened.specs.Widens
