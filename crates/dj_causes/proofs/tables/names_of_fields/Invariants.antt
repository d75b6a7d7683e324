use Rattle.std.proofs.Common.{◌≡◌, map, take}
use Rattle.dj_class.specs.Views.{view_field}
use Rattle.dj_causes.specs.FieldCauses.{field_names}
use Rattle.dj_causes.proofs.tables.names_of_fields.Given as goal

abbrev pub invariant-loop-field : goal.invariant-loop-field
invariant-loop-field l = l.names ≡ field_names (map view_field (take l.field-index l.fields))
