use Rattle.std.proofs.Common.{◌≡◌, ℕ, map, Some, length, slice_get}
use Rattle.dj_class.specs.Described.{MethodOf}
use Rattle.dj_class.specs.Views.{view_method}
use Rattle.dj_signatures.specs.Numbers.{AreNumbers}
use Rattle.dj_signatures.specs.declared.keys.Key.{Key}
use Rattle.dj_signatures.specs.Keys.{IsKey}
use Rattle.dj_signatures.proofs.keys.keys_of.Given as goal

abbrev pub invariant-loop-method : goal.invariant-loop-method
invariant-loop-method l = record {
  index : AreNumbers l.numbers;
  size : length l.keys.items ≡ l.method-index;
  each : (at : ℕ) (method : MethodOf) (key : Key) → slice_get (map view_method l.methods) at ≡ Some method → slice_get l.keys.items at ≡ Some key → IsKey l.numbers method key;
}
