pub mod Reaching
pub mod Typing
pub mod Ending
pub mod Running
pub mod Vacuous
pub mod Reading
pub mod Heads
pub mod Ends
pub mod Bodies
pub mod Named
pub mod Constructors
pub mod Turning
pub mod Breaking
pub mod Jumping
pub mod Initialisers
pub mod Dummies
pub mod Starts
pub mod OpenJumps
pub mod Escapes
pub mod BrokenEscapes
mod Examples
pub use Rattle.dj_formed.proofs.Named as FormedNamed
pub use Rattle.dj_formed.proofs.Alike
pub use Rattle.dj_formed.proofs.RunsAlike
pub use Rattle.dj_formed.proofs.StatesAlike
pub use Rattle.dj_held.proofs.Goes
