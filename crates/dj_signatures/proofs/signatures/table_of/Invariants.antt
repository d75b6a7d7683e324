use Rattle.std.proofs.Common.{◌≡◌, map, take}
use Rattle.dj_class.specs.Views.{view_method}
use Rattle.dj_signatures.specs.Signatures.{method_names}
use Rattle.dj_signatures.proofs.signatures.table_of.Given as goal

abbrev pub invariant-loop-method : goal.invariant-loop-method
invariant-loop-method l = l.names ≡ method_names (map view_method (take l.method-index l.methods))
