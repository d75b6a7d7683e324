use Rattle.std.proofs.Common.{ap}
use Rattle.dj_names.specs.declared.types.JType.TheVariants as variants
use Rattle.dj_names.specs.Types.{JType, Of, view_type}
use Rattle.dj_syntax.specs.Trees.{view_stms}
use Rattle.dj_instructions.specs.Instructions.{view_method_ref}
use Rattle.dj_places.specs.Surroundings.{surroundings_of}
use Rattle.dj_pending.specs.Trees.{view_tree}
use Rattle.dj_pending.specs.Operands.{operands_of}
use Rattle.dj_pending.specs.Stacks.{stacked}
use Rattle.dj_pending.specs.Building.{view_built}
use Rattle.dj_member_trees.proofs.SpecialLemmas.{twice-pushed, class-viewed}
use Rattle.dj_member_trees.proofs.special.end_twice.Goals as goal

pub returns : goal.returns
returns c = record {
  built = twice-pushed (surroundings_of c.args.classes.now) (view_method_ref c.args.method.now) (view_stms c.args.built.now.emitted) c.args.built.now.next c.args.class (operands_of c.args.operands) (stacked c.args.built.now.stack)
      (view_tree c.in-Some.tree) (Of (view_type (variants.Class c.args.class))) (view_built c.push.new.self) (rw c.in-Some.is at c.in_ok-tree.ensures.birth) (ap (λ (one : JType). Of one) (class-viewed c.args.class)) c.in_ok-push.ensures.pushed;
}
