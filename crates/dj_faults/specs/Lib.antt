-- What the contracts rest on: which of several faults counts, and what a body's fault says.
pub mod Faults
pub mod FirstFault
pub use Rattle.dj_places.specs.Rules
pub use Rattle.dj_places.specs.declared.kind.TypeKind
