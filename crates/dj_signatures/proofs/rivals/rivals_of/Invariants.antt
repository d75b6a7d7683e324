use Rattle.std.proofs.Common.{◌≡◌, ◌↔◌, ℕ, Bool, IsTrue, map, Some, length, slice_get}
use Rattle.dj_class.specs.Described.{MethodOf}
use Rattle.dj_class.specs.Views.{view_method}
use Rattle.dj_signatures.specs.Signatures.{HasRival}
use Rattle.dj_signatures.proofs.rivals.rivals_of.Given as goal

abbrev pub invariant-loop-at : goal.invariant-loop-at
invariant-loop-at l = record {
  size : length l.rivals ≡ l.at;
  each : (at : ℕ) (method : MethodOf) (rival : Bool) → slice_get (map view_method l.methods) at ≡ Some method → slice_get l.rivals at ≡ Some rival → IsTrue rival ↔ HasRival (map view_method l.methods) at method;
}
