use Rattle.std.proofs.Common.{◌∙◌}
use Rattle.dj_names.specs.Types.{view_types}
use Rattle.dj_syntax.specs.Trees.{view_exps}
use Rattle.dj_instructions.specs.Instructions.{view_method_ref}
use Rattle.dj_places.specs.Surroundings.{surroundings_of}
use Rattle.dj_pending.specs.Trees.{view_tree}
use Rattle.dj_pending.specs.Entries.{view_operand}
use Rattle.dj_pending.specs.Operands.{operands_of}
use Rattle.dj_member_trees.proofs.GivenLemmas.{last-taken}
use Rattle.dj_member_trees.proofs.CallingLemmas.{own-same, object-stops, object-lacks, object-made}
use Rattle.dj_member_trees.proofs.calls.object_call.Goals as goal

pub returns-in_default-2 : goal.returns-in_default-2
returns-in_default-2 c = record {
  call = object-stops (surroundings_of c.args.classes.now) (view_method_ref c.args.method.now) (operands_of c.args.operands) (view_operand c.in-Some.object) (operands_of c.pop.new.self) (last-taken c.args.operands c.pop.new.self c.in-Some.object c.in-Some.ensures)
      (rw c.in_default-2.is at c.in_ok-object.ensures.receiver);
}

pub returns-in_default-3 : goal.returns-in_default-3
returns-in_default-3 c = record {
  call = object-lacks (surroundings_of c.args.classes.now) (view_method_ref c.args.method.now) (operands_of c.args.operands) (view_operand c.in-Some.object) (operands_of c.pop.new.self) (view_tree c.in-Some-2.object) (last-taken c.args.operands c.pop.new.self c.in-Some.object c.in-Some.ensures)
      (rw c.in-Some-2.is at c.in_ok-object.ensures.receiver)
      ((rw c.in_default-3.is at c.in_ok-arguments.ensures.given)
      ∙ own-same (surroundings_of c.args.classes.now) (view_method_ref c.args.method.now) (operands_of c.pop.new.self) c.is_alone_in-alone.result (view_types c.parameters_of-parameters.result.now) c.parameters_of-parameters.ensures.parameters c.is_alone_in-alone.ensures.alone);
}

pub returns : goal.returns
returns c = record {
  call = object-made (surroundings_of c.args.classes.now) (view_method_ref c.args.method.now) (operands_of c.args.operands) (view_operand c.in-Some.object) (operands_of c.pop.new.self) (view_tree c.in-Some-2.object) (view_tree c.in_ok-tree.tree) (view_exps c.in-Some-3.arguments.exps)
      (last-taken c.args.operands c.pop.new.self c.in-Some.object c.in-Some.ensures) (rw c.in-Some-2.is at c.in_ok-object.ensures.receiver)
      ((rw c.in-Some-3.is at c.in_ok-arguments.ensures.given)
      ∙ own-same (surroundings_of c.args.classes.now) (view_method_ref c.args.method.now) (operands_of c.pop.new.self) c.is_alone_in-alone.result (view_types c.parameters_of-parameters.result.now) c.parameters_of-parameters.ensures.parameters c.is_alone_in-alone.ensures.alone)
      c.in_ok-tree.ensures.tree;
}
