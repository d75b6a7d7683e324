use Rattle.std.proofs.Common.{◌≡◌, drop}
use Rattle.dj_syntax.specs.Trees.{view_groups}
use Rattle.dj_typed.specs.Switches as spec
use Rattle.dj_body_types.proofs.labels.are_formed.Given as goal

abbrev pub invariant-loop-index : goal.invariant-loop-index
invariant-loop-index l = record { formed : spec.are_formed (view_groups (drop l.index l.groups)) ≡ spec.are_formed (view_groups l.groups) }
