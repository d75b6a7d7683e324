use Rattle.std.proofs.Common.{◌≡◌, ◌++◌, flat_map, take}
use Rattle.dj_names.specs.Types.{view_types}
use Rattle.dj_names.specs.Descriptors.{spell_type}
use Rattle.dj_write.proofs.descriptors.push_types.Given as goal

abbrev pub invariant-loop-kind : goal.invariant-loop-kind
invariant-loop-kind l = l.units.items ≡ l.initial.units.items ++ flat_map spell_type (take l.kind-index (view_types l.kinds))
