use Rattle.std.proofs.Common.{◌≡◌, Some, Any, take}
use Rattle.dj_names.specs.Types.{view_type}
use Rattle.dj_world.specs.Named.{class_of}
use Rattle.dj_sayable.specs.Gathering.{Gains}
use Rattle.dj_causes.proofs.unsaid.add_types.Given as goal

abbrev pub invariant-loop-kind : goal.invariant-loop-kind
invariant-loop-kind l = Gains l.initial.names l.names (λ name. Any (λ kind. class_of (view_type kind) ≡ Some name) (take l.kind-index l.kinds))
