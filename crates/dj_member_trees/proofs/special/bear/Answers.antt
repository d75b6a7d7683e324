use Rattle.std.proofs.Common.{◌≡◌, ℕ, length, [], ap, ◌∙◌}
use Rattle.dj_syntax.specs.Trees.{view_stms}
use Rattle.dj_instructions.specs.Instructions.{view_method_ref}
use Rattle.dj_bytecode.specs.Meanings.{arguments_of}
use Rattle.dj_places.specs.Surroundings.{surroundings_of}
use Rattle.dj_pending.specs.Operands.{operands_of, taken_from}
use Rattle.dj_pending.specs.Stacks.{stacked}
use Rattle.dj_pending.specs.Building.{view_built, as_built}
use Rattle.dj_member_trees.proofs.SpecialLemmas.{birth-goes, counted}
use Rattle.dj_member_trees.proofs.special.bear.Goals as goal

pub returns : goal.returns
returns c =
    let count_is : length c.parameters_of-count.result.now ≡ arguments_of (view_method_ref c.args.method.now).descriptor = counted c.parameters_of-count.result.now (view_method_ref c.args.method.now).descriptor c.parameters_of-count.ensures.parameters in
    record {
      built = birth-goes (surroundings_of c.args.classes.now) (view_method_ref c.args.method.now) (view_stms c.args.built.now.emitted) c.args.built.now.next (stacked c.args.built.now.stack) (operands_of c.in-Some.operands) (stacked c.take.new.stack)
          (as_built c.in_ok-done.done (view_built c.end_birth.new.built)) (rw c.in-Some.is at c.in_ok-operands.ensures.taken ∙ ap (λ (count : ℕ). taken_from count [] (stacked c.args.built.now.stack)) count_is) c.in_ok-done.ensures.built;
    }
