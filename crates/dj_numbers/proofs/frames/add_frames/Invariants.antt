use Rattle.std.proofs.Common.{◌≡◌, map, drop}
use Rattle.dj_numbers.specs.Numbers.{IsChained, view_variables}
use Rattle.dj_numbers.specs.Frames.{view_first, with_frames}
use Rattle.dj_numbers.proofs.frames.add_frames.Given as goal

abbrev pub invariant-loop-first : goal.invariant-loop-first
invariant-loop-first l = record {
  chained : IsChained l.numbers.variables l.numbers.lasts;
  variables : with_frames l.most (view_variables l.numbers.variables) (map view_first (drop l.first-index l.firsts)) ≡ with_frames l.most (view_variables l.initial.numbers.variables) (map view_first l.firsts);
}
