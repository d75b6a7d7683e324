use Rattle.std.proofs.Common.{◌≡◌, Any, Some, take}
use Rattle.dj_names.specs.Types.{view_type}
use Rattle.dj_world.specs.Named.{class_of}
use Rattle.dj_world.specs.Learning.{Learns}
use Rattle.dj_world.proofs.named.learn_fields.Given as goal

abbrev pub invariant-loop-field : goal.invariant-loop-field
invariant-loop-field l = Learns l.initial.names l.names (λ name. Any (λ field. class_of (view_type field.descriptor) ≡ Some name) (take l.field-index l.fields))
