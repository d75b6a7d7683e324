use Rattle.dj_syntax.specs.Trees.{view_stms}
use Rattle.dj_instructions.specs.Instructions.{view_method_ref}
use Rattle.dj_places.specs.Surroundings.{surroundings_of}
use Rattle.dj_pending.specs.Trees.{view_tree}
use Rattle.dj_pending.specs.Operands.{operands_of}
use Rattle.dj_pending.specs.Stacks.{stacked}
use Rattle.dj_pending.specs.Building.{view_built, as_built}
use Rattle.dj_member_trees.proofs.SpecialLemmas.{once-given, born-call}
use Rattle.dj_member_trees.proofs.special.end_once.Goals as goal

pub give-requires : goal.give-requires
give-requires c = record { call = born-call (surroundings_of c.args.classes.now) (view_method_ref c.args.method.now) c.args.class.now (operands_of c.args.operands) (view_tree c.in-Some.tree) (rw c.in-Some.is at c.in_ok-tree.ensures.birth) }

pub returns : goal.returns
returns c = record {
  built = once-given (surroundings_of c.args.classes.now) (view_method_ref c.args.method.now) (view_stms c.args.built.now.emitted) c.args.built.now.next c.args.class.now (operands_of c.args.operands) (stacked c.args.built.now.stack)
      (view_tree c.in-Some.tree) (as_built c.in_ok-done.done (view_built c.give.new.built)) (rw c.in-Some.is at c.in_ok-tree.ensures.birth) c.in_ok-done.ensures.built;
}
