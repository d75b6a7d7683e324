use Rattle.std.proofs.Common.{◌↔◌, ℕ, List, IsTrue, Contains, subst}
use Rattle.dj_world.specs.CoreKinds.{core_interfaces}
use Rattle.dj_world.proofs.core_kinds.is_core_interface.Goals as goal

pub returns : goal.returns
unfolding core_interfaces
returns c = record { exact = subst (λ (name : List ℕ). IsTrue c.is_among.result ↔ Contains core_interfaces name) c.as_slice.ensures.units c.is_among.ensures.among }
