use Rattle.std.proofs.Common.{◌≡◌, drop, map}
use Rattle.dj_syntax.specs.Trees.{view_method}
use Rattle.dj_class_text.specs.Helpers.{methods_have_rethrow}
use Rattle.dj_class_text.proofs.rethrows.methods_have_rethrow.Given as goal

abbrev pub invariant-loop-method : goal.invariant-loop-method
invariant-loop-method l = methods_have_rethrow (map view_method (drop l.method-index l.methods)) ≡ methods_have_rethrow (map view_method l.methods)
