use Rattle.std.proofs.Common.{◌≡◌, ℕ, ◌+◌, length, [], ap, ◌∙◌}
use Rattle.dj_names.specs.Types.{result_of}
use Rattle.dj_syntax.specs.Trees.{view_stms}
use Rattle.dj_instructions.specs.Instructions.{view_method_ref}
use Rattle.dj_bytecode.specs.Meanings.{arguments_of}
use Rattle.dj_places.specs.Surroundings.{surroundings_of}
use Rattle.dj_pending.specs.Trees.{view_tree}
use Rattle.dj_pending.specs.Operands.{operands_of, taken_from}
use Rattle.dj_pending.specs.Stacks.{stacked}
use Rattle.dj_pending.specs.Spilling.{behind}
use Rattle.dj_pending.specs.Building.{view_built, as_built}
use Rattle.dj_member_trees.specs.Calling.{special_called, result_built}
use Rattle.dj_member_trees.proofs.SpecialLemmas.{call-given, counted, special-is-call}
use Rattle.dj_member_trees.proofs.special.call_special.Goals as goal

pub give-requires : goal.give-requires
give-requires c = record { call = special-is-call (surroundings_of c.args.classes.now) (view_method_ref c.args.method.now) (operands_of c.in-Some.operands) (view_tree c.in-Some-2.tree) (rw c.in-Some-2.is at c.in_ok-tree.ensures.call) }

pub returns : goal.returns
returns c =
    let method = view_method_ref c.args.method.now in
    let count_is : length c.parameters_of.result.now ≡ arguments_of method.descriptor = counted c.parameters_of.result.now method.descriptor c.parameters_of.ensures.parameters in
    record {
      built = call-given (surroundings_of c.args.classes.now) method (view_stms c.args.built.now.emitted) c.args.built.now.next (arguments_of method.descriptor + 1) (special_called (surroundings_of c.args.classes.now) method) (result_of method.descriptor) (stacked c.args.built.now.stack)
          (operands_of c.in-Some.operands) (stacked c.take.new.stack) (view_tree c.in-Some-2.tree) (as_built c.in_ok-done.done (view_built c.give.new.built))
          (rw c.in-Some.is at c.in_ok-operands.ensures.taken ∙ ap (λ (count : ℕ). taken_from (count + 1) [] (stacked c.args.built.now.stack)) count_is) (rw c.in-Some-2.is at c.in_ok-tree.ensures.call)
          (c.in_ok-done.ensures.built ∙ ap (λ given. behind (view_stms c.args.built.now.emitted) (result_built c.args.built.now.next (stacked c.take.new.stack) given (view_tree c.in-Some-2.tree))) c.result_of.ensures.result);
    }
