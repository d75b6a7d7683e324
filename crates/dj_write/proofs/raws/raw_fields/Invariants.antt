use Rattle.std.proofs.Common.{map, take}
use Rattle.dj_class.specs.Described.{DescribesField}
use Rattle.dj_class.specs.FileFormat as layout
use Rattle.dj_class.specs.Views.{view_field}
use Rattle.dj_write.specs.Written.{AreRaws}
use Rattle.dj_write.proofs.raws.raw_fields.Given as goal

abbrev pub invariant-loop-field : goal.invariant-loop-field
invariant-loop-field l = AreRaws (layout.field l.index) (DescribesField l.index) (take l.field-index (map view_field l.fields)) l.raws
