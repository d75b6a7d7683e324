use Rattle.std.proofs.Common.{ap}
use Rattle.dj_names.specs.declared.types.JType as code
use Rattle.dj_names.specs.Types.{Of, view_type}
use Rattle.dj_syntax.specs.Trees.{view_stms}
use Rattle.dj_pending.specs.Trees.{view_tree}
use Rattle.dj_pending.specs.Operands.{operands_of}
use Rattle.dj_pending.specs.Stacks.{stacked}
use Rattle.dj_pending.specs.Building.{view_built}
use Rattle.dj_member_trees.proofs.ArrayLemmas.{array-pushed}
use Rattle.dj_member_trees.proofs.arrays.make_array.Goals as goal

pub returns : goal.returns
returns c = record {
  built = array-pushed (view_type c.args.kind.now) c.args.count (view_stms c.args.built.now.emitted) c.args.built.now.next (stacked c.args.built.now.stack) (operands_of c.in-Some.operands) (stacked c.take.new.stack) (view_tree c.in-Some-2.tree)
      (Of (view_type c.in_ok-copy.field-0)) (view_built c.push.new.self) (rw c.in-Some.is at c.in_ok-operands.ensures.taken) (rw c.in-Some-2.is at c.in_ok-tree.ensures.array) (ap (λ (one : code.JType). Of (view_type one)) c.in_ok-copy.ensures.equal)
      c.in_ok-push.ensures.pushed;
}
