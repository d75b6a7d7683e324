use Rattle.std.proofs.Common.{refl}
use Rattle.dj_syntax.specs.Trees.{view_stms}
use Rattle.dj_pending.specs.Trees.{view_tree}
use Rattle.dj_pending.specs.Entries.{view_operand}
use Rattle.dj_pending.specs.Stacks.{stacked}
use Rattle.dj_pending.specs.Building.{view_built}
use Rattle.dj_member_trees.proofs.ElementLemmas.{read-pushed}
use Rattle.dj_member_trees.proofs.elements.read_element.Goals as goal

pub returns : goal.returns
returns c = record {
  built = read-pushed c.args.headers.now c.args.element (view_stms c.args.built.now.emitted) c.args.built.now.next (stacked c.args.built.now.stack) (view_tree c.in-Some.index) (stacked c.take_whole.new.stack) (view_operand c.in-Some-2.array)
      (stacked c.take_array.new.stack) (view_tree c.in_ok-tree.tree) (view_built c.push.new.self) (rw c.in-Some.is at c.in_ok-index.ensures.taken) (rw c.in-Some-2.is at c.in_ok-array.ensures.taken) c.in_ok-tree.ensures.tree c.in_ok-push.ensures.pushed;
}
