use Rattle.std.proofs.Common.{◌≡◌, length}
use Rattle.dj_instructions.specs.Jumps.{do_rise}
use Rattle.dj_effects.proofs.spelled.do_rise.Given as goal

abbrev pub invariant-loop-left : goal.invariant-loop-left
invariant-loop-left l = do_rise l.left ≡ do_rise l.fn.cases

abbrev pub decreases-loop-left : goal.decreases-loop-left
decreases-loop-left l = length l.left
