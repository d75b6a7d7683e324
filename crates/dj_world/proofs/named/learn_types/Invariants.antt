use Rattle.std.proofs.Common.{◌≡◌, Any, Some, take}
use Rattle.dj_names.specs.Types.{view_type}
use Rattle.dj_world.specs.Named.{class_of}
use Rattle.dj_world.specs.Learning.{Learns}
use Rattle.dj_world.proofs.named.learn_types.Given as goal

abbrev pub invariant-loop-kind : goal.invariant-loop-kind
invariant-loop-kind l = Learns l.initial.names l.names (λ name. Any (λ kind. class_of (view_type kind) ≡ Some name) (take l.kind-index l.kinds))
