use Rattle.dj_syntax.specs.Trees.{view_exps}
use Rattle.dj_pending.specs.Trees.{view_tree}
use Rattle.dj_member_trees.proofs.GivenLemmas.{size-next, size-stops, size-done}
use Rattle.dj_member_trees.proofs.arguments.sizes_of.Goals as goal

pub returns-in_default-2 : goal.returns-in_default-2
returns-in_default-2 c = record {
  sizes = size-stops c.loop-operand.left (view_exps c.loop-operand.sizes.exps) _ c.loop-operand.invariant c.pop.new.self c.in-Some.operand c.in-Some.ensures (rw c.in_default-2.is at c.in_ok-tree.ensures.whole);
}

pub loop-operand-preserved : goal.loop-operand-preserved
loop-operand-preserved c =
    size-next c.loop-operand.left (view_exps c.loop-operand.sizes.exps) _ c.loop-operand.invariant c.pop.new.self c.in-Some.operand c.in-Some.ensures (view_tree c.in-Some-2.tree) (rw c.in-Some-2.is at c.in_ok-tree.ensures.whole)
    (view_exps c.push.new.self.exps) c.in_ok-push.ensures.pushed

pub returns : goal.returns
returns c = record { sizes = size-done c.loop-operand.left (view_exps c.loop-operand.sizes.exps) _ c.loop-operand.invariant c.in_default.ensures.0 }
