use Rattle.std.proofs.Common.{◌≡◌, ℕ, Option, Some, length, map}
use Rattle.std.specs.Prelude.{slice_get}
use Rattle.dj_frames.specs.Frames.{Frame}
use Rattle.dj_code.specs.MethodCode.{view_typed}
use Rattle.dj_numbers.specs.Frames.{view_first}
use Rattle.dj_code_variables.specs.Firsts.{IsFirstAt}
use Rattle.dj_code_variables.proofs.firsts.first_frames.Given as goal

abbrev pub invariant-loop-start : goal.invariant-loop-start
invariant-loop-start l = record {
  long : length l.firsts ≡ l.start-index;
  each : (block start : ℕ) (first : Option Frame) → slice_get l.starts block ≡ Some start → slice_get (map view_first l.firsts) block ≡ Some first → IsFirstAt (view_typed l.typed) start first;
}
