use Rattle.std.proofs.Common.{◌≡◌, take}
use Rattle.dj_code.proofs.method_code.copy_given.Given as goal

abbrev pub invariant-loop-at : goal.invariant-loop-at
invariant-loop-at l = l.copy ≡ take l.at-index l.frames
