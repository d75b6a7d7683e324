use Rattle.std.proofs.Common.{◌≡◌, ◌++◌, length}
use Rattle.dj_values.specs.Views.{view_values}
use Rattle.dj_operands.specs.Stacks.{stacked}
use Rattle.dj_operands.proofs.shuffles.put.Given as goal

abbrev pub decreases-loop-value : goal.decreases-loop-value
decreases-loop-value l = length l.left

abbrev pub invariant-loop-value : goal.invariant-loop-value
invariant-loop-value l = view_values l.left ++ stacked l.stack ≡ view_values l.fn.values ++ stacked l.initial.stack
