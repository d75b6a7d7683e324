use Rattle.std.proofs.Common.{◌≡◌, ◌++◌, take}
use Rattle.dj_members.specs.Tables.{field_names}
use Rattle.dj_sayable.proofs.scope.add_names.Given as goal

abbrev pub invariant-loop-field : goal.invariant-loop-field
invariant-loop-field l = l.names ≡ l.initial.names ++ field_names (take l.field-index l.fields)
