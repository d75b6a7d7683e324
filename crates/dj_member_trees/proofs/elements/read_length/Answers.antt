use Rattle.dj_names.specs.Types.{view_type}
use Rattle.dj_syntax.specs.Trees.{view_stms}
use Rattle.dj_pending.specs.Trees.{view_tree}
use Rattle.dj_pending.specs.Entries.{view_operand}
use Rattle.dj_pending.specs.Stacks.{stacked}
use Rattle.dj_pending.specs.Building.{view_built}
use Rattle.dj_instructions.specs.declared.kinds.Element.TheVariants as element
use Rattle.dj_member_trees.proofs.ElementLemmas.{length-pushed}
use Rattle.dj_member_trees.proofs.elements.read_length.Goals as goal

pub returns : goal.returns
returns c = record {
  built = length-pushed c.args.headers.now element.Int (view_stms c.args.built.now.emitted) c.args.built.now.next (stacked c.args.built.now.stack) (view_operand c.in-Some.array) (stacked c.take_one.new.stack) (view_tree c.in-Some-2.array)
      (view_tree c.in_ok-tree.tree) (view_type c.int_type.result) (view_built c.push.new.self) (rw c.in-Some.is at c.take_one.ensures.taken) (rw c.in-Some-2.is at c.in_ok-array.ensures.measured) c.in_ok-tree.ensures.length
      c.int_type.ensures.kind c.in_ok-push.ensures.pushed;
}
