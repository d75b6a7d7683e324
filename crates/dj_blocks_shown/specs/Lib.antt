-- What the laws rest on, in reading order.
pub mod Leaving
pub mod Catching
pub mod Copies
pub mod Walks
pub mod Keeping
pub mod Composing
pub mod Rebuilding
pub use Rattle.dj_vars.specs.Slots
pub use Rattle.dj_vars.specs.Naming
pub use Rattle.dj_vars.specs.Agreeing
pub use Rattle.dj_sound.specs.States
