use Rattle.std.proofs.Common.{◌≡◌, drop}
use Rattle.std.specs.List.{list_all}
use Rattle.dj_known_world.specs.Known.{field_fits}
use Rattle.dj_known_world.proofs.known.fields_fit.Given as goal

abbrev pub invariant-loop-field : goal.invariant-loop-field
invariant-loop-field l = list_all field_fits (drop l.field-index l.fields) ≡ list_all field_fits l.fields
