use Rattle.std.proofs.Common.{◌≡◌, length}
use Rattle.dj_syntax.specs.Trees.{view_exps}
use Rattle.dj_member_nodes.specs.Nodes.{sizes_of}
use Rattle.dj_pending.specs.Operands.{operands_of}
use Rattle.dj_member_trees.proofs.GivenLemmas.{behind_exps}
use Rattle.dj_member_trees.proofs.arguments.sizes_of.Given as goal

abbrev pub decreases-loop-operand : goal.decreases-loop-operand
decreases-loop-operand l = length l.left

abbrev pub invariant-loop-operand : goal.invariant-loop-operand
invariant-loop-operand l = behind_exps (view_exps l.sizes.exps) (sizes_of (operands_of l.left)) ≡ sizes_of (operands_of l.fn.operands)
