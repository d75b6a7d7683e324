use Rattle.std.proofs.Common.{◌≡◌, ℕ, Option, Some, length, slice_get}
use Rattle.dj_class.specs.Views.{view_class}
use Rattle.dj_causes.specs.declared.cause.Cause.{Cause}
use Rattle.dj_causes.specs.Tables.{IsToldOf}
use Rattle.dj_causes.proofs.causes.method_causes.Given as goal

abbrev pub invariant-loop-at : goal.invariant-loop-at
invariant-loop-at l = record {
  size : length l.causes ≡ l.at;
  each : (place : ℕ) (cause : Option Cause) → slice_get l.causes place ≡ Some cause → IsToldOf l.world (view_class l.class) place cause;
}
