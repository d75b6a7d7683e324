use Rattle.std.proofs.Common.{◌≡◌}
use Rattle.dj_frames.specs.Frames.{view_frame}
use Rattle.dj_numbers.specs.Numbers.{IsChained, view_variables, with_slots}
use Rattle.dj_numbers.specs.Frames.{frame_type}
use Rattle.dj_numbers.proofs.frames.add_frame.Given as goal

abbrev pub invariant-loop-slot : goal.invariant-loop-slot
invariant-loop-slot l = record {
  chained : IsChained l.numbers.variables l.numbers.lasts;
  variables : view_variables l.numbers.variables ≡ with_slots (view_variables l.initial.numbers.variables) (frame_type l.most (view_frame l.frame)) l.slot;
}
