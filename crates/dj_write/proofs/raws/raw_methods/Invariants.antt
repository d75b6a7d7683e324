use Rattle.std.proofs.Common.{map, take}
use Rattle.dj_class.specs.Described.{DescribesMethod}
use Rattle.dj_class.specs.FileFormat as layout
use Rattle.dj_class.specs.Views.{view_method}
use Rattle.dj_write.specs.Written.{AreRaws}
use Rattle.dj_write.proofs.raws.raw_methods.Given as goal

abbrev pub invariant-loop-method : goal.invariant-loop-method
invariant-loop-method l = AreRaws (layout.method l.index) (DescribesMethod l.index) (take l.method-index (map view_method l.methods)) l.raws
