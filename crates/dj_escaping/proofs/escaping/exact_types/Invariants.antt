use Rattle.std.proofs.Common.{◌≡◌, map, take}
use Rattle.dj_names.specs.Types.{view_static, view_type, Of}
use Rattle.dj_escaping.proofs.escaping.exact_types.Given as goal

abbrev pub invariant-loop-kind : goal.invariant-loop-kind
invariant-loop-kind l = map view_static l.found ≡ map Of (map view_type (take l.kind-index l.types))
