use Rattle.std.proofs.Common.{map}
use Rattle.std.specs.List.{AllZip}
use Rattle.dj_layout.specs.Layout.{SpellsSome}
use Rattle.dj_layout.specs.Parts.{times}
use Rattle.dj_class.specs.Views.{view_field}
use Rattle.dj_class.specs.FileFormat.{field}
use Rattle.dj_class.specs.Described.{DescribesField}
use Rattle.dj_class.proofs.listed.field_list.Given as goal

abbrev pub invariant-loop : goal.invariant-loop
invariant-loop l = SpellsSome (times l.counter (field l.pool)) (AllZip (DescribesField l.pool)) l.bytes (map view_field l.found) l.rest
