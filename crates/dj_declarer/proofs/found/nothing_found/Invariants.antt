use Rattle.std.proofs.Common.{◌≡◌, ◌++◌, false, map, drop}
use Rattle.dj_names.specs.Types.{JType, view_type}
use Rattle.dj_declarer.proofs.found.nothing_found.Given as goal

abbrev pub invariant-loop-kind : goal.invariant-loop-kind
invariant-loop-kind l = l.seen ++ map (λ (type : JType). false) (map view_type (drop l._kind-index l.kinds)) ≡ map (λ (type : JType). false) (map view_type l.kinds)
