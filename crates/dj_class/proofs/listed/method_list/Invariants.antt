use Rattle.std.proofs.Common.{map}
use Rattle.std.specs.List.{AllZip}
use Rattle.dj_layout.specs.Layout.{SpellsSome}
use Rattle.dj_layout.specs.Parts.{times}
use Rattle.dj_class.specs.Views.{view_method}
use Rattle.dj_class.specs.FileFormat.{method}
use Rattle.dj_class.specs.Described.{DescribesMethod}
use Rattle.dj_class.proofs.listed.method_list.Given as goal

abbrev pub invariant-loop : goal.invariant-loop
invariant-loop l = SpellsSome (times l.counter (method l.pool)) (AllZip (DescribesMethod l.pool)) l.bytes (map view_method l.found) l.rest
