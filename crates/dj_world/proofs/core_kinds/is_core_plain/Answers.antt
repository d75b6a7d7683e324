use Rattle.std.proofs.Common.{◌↔◌, ℕ, List, IsTrue, Contains, subst}
use Rattle.dj_world.specs.CoreKinds.{core_plain}
use Rattle.dj_world.proofs.core_kinds.is_core_plain.Goals as goal

pub returns : goal.returns
unfolding core_plain
returns c = record { exact = subst (λ (name : List ℕ). IsTrue c.is_among.result ↔ Contains core_plain name) c.as_slice.ensures.units c.is_among.ensures.among }
