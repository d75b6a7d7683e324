use Rattle.std.proofs.Common.{List, reverse, take}
use Rattle.dj_instructions.specs.Instructions.{view_instructions}
use Rattle.dj_straight.specs.Straight.{Formula}
use Rattle.dj_straight.specs.Rebuilding.{AreNodes, Builds}
use Rattle.dj_straight.proofs.straight.begin.Given as goal

abbrev pub invariant-loop-at : goal.invariant-loop-at
invariant-loop-at l =
    (formulas : List Formula) × Builds l.parameters l.max_stack l.code (view_instructions (take l.at-index l.instructions)) formulas × AreNodes (reverse l.stack) formulas
