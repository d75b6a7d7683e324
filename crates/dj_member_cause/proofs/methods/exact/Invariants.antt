use Rattle.std.proofs.Common.{◌≡◌, map, take}
use Rattle.dj_names.specs.Types.{view_static, view_types}
use Rattle.dj_meant.specs.Meant.{exact}
use Rattle.dj_member_cause.proofs.methods.exact.Given as goal

abbrev pub invariant-loop-kind : goal.invariant-loop-kind
invariant-loop-kind l = map view_static l.types ≡ exact (view_types (take l.kind-index l.kinds))
