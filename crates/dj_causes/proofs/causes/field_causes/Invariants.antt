use Rattle.std.proofs.Common.{◌≡◌, ℕ, Option, Some, length, slice_get}
use Rattle.dj_class.specs.Views.{view_class}
use Rattle.dj_causes.specs.declared.cause.FieldCause.{FieldCause}
use Rattle.dj_causes.specs.FieldCauses.{IsFieldCause}
use Rattle.dj_causes.proofs.causes.field_causes.Given as goal

abbrev pub invariant-loop-at : goal.invariant-loop-at
invariant-loop-at l = record {
  size : length l.causes ≡ l.at;
  each : (place : ℕ) (cause : Option FieldCause) → slice_get l.causes place ≡ Some cause → IsFieldCause l.world (view_class l.class) place cause;
}
