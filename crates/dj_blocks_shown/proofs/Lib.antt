-- Lemmas.
pub mod Composing
pub mod Catching
pub mod Covering
pub mod Copying
pub mod Walking
pub mod Making
pub mod Parting
pub mod Even
pub mod Starting
pub mod Quiet
pub mod Examples
pub mod Growing
pub mod Handing
pub mod Rebuilding
pub use Rattle.dj_vars.proofs.Holding
