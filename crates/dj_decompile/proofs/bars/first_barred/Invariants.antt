use Rattle.std.proofs.Common.{◌≡◌, length}
use Rattle.dj_instructions.specs.Instructions.{view_instructions}
use Rattle.dj_decompiled.specs.Decompiled.{first_barred}
use Rattle.dj_decompile.proofs.bars.first_barred.Given as goal

abbrev pub invariant-loop-left : goal.invariant-loop-left
invariant-loop-left l = first_barred l.fn.handlers (view_instructions l.left) ≡ first_barred l.fn.handlers (view_instructions l.fn.instructions)

abbrev pub decreases-loop-left : goal.decreases-loop-left
decreases-loop-left l = length l.left
