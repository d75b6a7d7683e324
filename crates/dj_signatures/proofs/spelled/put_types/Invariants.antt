use Rattle.std.proofs.Common.{◌≡◌, ◌++◌, take}
use Rattle.std.specs.List.{flat_map}
use Rattle.dj_names.specs.Types.{view_types}
use Rattle.dj_signatures.specs.Spelled.{spelled_type}
use Rattle.dj_signatures.proofs.spelled.put_types.Given as goal

abbrev pub invariant-loop-kind : goal.invariant-loop-kind
invariant-loop-kind l = l.text.items ≡ l.initial.text.items ++ flat_map spelled_type (view_types (take l.kind-index l.kinds))
