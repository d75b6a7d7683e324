use Rattle.std.proofs.Common.{◌+◌, ℕ, Option, ap, ◌∙◌}
use Rattle.dj_names.specs.Types.{JType, view_descriptor, parameters_of}
use Rattle.dj_syntax.specs.Trees.{view_stms}
use Rattle.dj_instructions.specs.Instructions.{view_method_ref}
use Rattle.dj_places.specs.Surroundings.{surroundings_of}
use Rattle.dj_values.specs.Values.{Virtual}
use Rattle.dj_bytecode.specs.Meanings.{arguments_of}
use Rattle.dj_pending.specs.Trees.{view_tree}
use Rattle.dj_pending.specs.Operands.{operands_of}
use Rattle.dj_pending.specs.Stacks.{stacked}
use Rattle.dj_pending.specs.Building.{view_built, as_built}
use Rattle.dj_pending.specs.Spilling.{behind}
use Rattle.dj_member_trees.specs.Calling.{object_called, result_built, call_result}
use Rattle.dj_member_trees.proofs.CallingLemmas.{object-drops, as-many, call-untaken, call-stops, call-done}
use Rattle.dj_member_trees.proofs.calls.invoke_object.Goals as goal

pub give-requires : goal.give-requires
give-requires c = record { call = object-drops (surroundings_of c.args.classes.now) (view_method_ref c.args.method.now) (operands_of c.in-Some.operands) (view_tree c.in-Some-2.tree) (rw c.in-Some-2.is at c.in_ok-tree.ensures.call) }

pub returns-in_default : goal.returns-in_default
returns-in_default c = record { given = call-untaken (view_stms c.args.built.now.emitted) _ (arguments_of (view_method_ref c.args.method.now).descriptor + 1) (ap (λ (many : ℕ). many + 1) (as-many c.parameters_of.result.now (parameters_of (view_descriptor c.args.method.now.descriptor)) c.parameters_of.ensures.parameters)) (object_called (surroundings_of c.args.classes.now) (view_method_ref c.args.method.now)) (call_result Virtual (view_method_ref c.args.method.now)) c.args.built.now.next (stacked c.args.built.now.stack) (rw c.in_default.is at c.in_ok-operands.ensures.taken) }

pub returns-in_default-2 : goal.returns-in_default-2
returns-in_default-2 c = record {
  given = call-stops (view_stms c.args.built.now.emitted) _ (arguments_of (view_method_ref c.args.method.now).descriptor + 1) (ap (λ (many : ℕ). many + 1) (as-many c.parameters_of.result.now (parameters_of (view_descriptor c.args.method.now.descriptor)) c.parameters_of.ensures.parameters)) (object_called (surroundings_of c.args.classes.now) (view_method_ref c.args.method.now)) (call_result Virtual (view_method_ref c.args.method.now)) c.args.built.now.next (stacked c.args.built.now.stack) (operands_of c.in-Some.operands) (stacked c.take.new.stack) (rw c.in-Some.is at c.in_ok-operands.ensures.taken) (rw c.in_default-2.is at c.in_ok-tree.ensures.call);
}

pub returns : goal.returns
returns c = record {
  given = call-done (view_stms c.args.built.now.emitted) _ (arguments_of (view_method_ref c.args.method.now).descriptor + 1) (ap (λ (many : ℕ). many + 1) (as-many c.parameters_of.result.now (parameters_of (view_descriptor c.args.method.now.descriptor)) c.parameters_of.ensures.parameters)) (object_called (surroundings_of c.args.classes.now) (view_method_ref c.args.method.now)) (call_result Virtual (view_method_ref c.args.method.now)) c.args.built.now.next (stacked c.args.built.now.stack) (operands_of c.in-Some.operands) (stacked c.take.new.stack) (view_tree c.in-Some-2.tree) (as_built c.in_ok-done.done (view_built c.give.new.built)) (rw c.in-Some.is at c.in_ok-operands.ensures.taken) (rw c.in-Some-2.is at c.in_ok-tree.ensures.call)
      (c.in_ok-done.ensures.built ∙ ap (λ (gives : Option JType). behind (view_stms c.args.built.now.emitted) (result_built c.args.built.now.next (stacked c.take.new.stack) gives (view_tree c.in-Some-2.tree))) c.given_by.ensures.given);
}
