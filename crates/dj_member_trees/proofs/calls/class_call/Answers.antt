use Rattle.std.proofs.Common.{◌∙◌}
use Rattle.dj_names.specs.Types.{view_types}
use Rattle.dj_syntax.specs.Trees.{view_exps}
use Rattle.dj_instructions.specs.Instructions.{view_method_ref}
use Rattle.dj_places.specs.Surroundings.{surroundings_of}
use Rattle.dj_pending.specs.Trees.{view_tree}
use Rattle.dj_pending.specs.Operands.{operands_of}
use Rattle.dj_member_trees.proofs.CallingLemmas.{class-same, class-lacks, class-made}
use Rattle.dj_member_trees.proofs.calls.class_call.Goals as goal

pub returns-in_default-2 : goal.returns-in_default-2
returns-in_default-2 c = record {
  call = class-lacks (surroundings_of c.args.classes.now) (view_method_ref c.args.method.now) (operands_of c.args.operands) c.in-Some.class.now c.in-Some.ensures.class
      ((rw c.in_default-2.is at c.in_ok-arguments.ensures.given)
      ∙ class-same (surroundings_of c.args.classes.now) (view_method_ref c.args.method.now) c.in-Some.class.now (operands_of c.args.operands) c.is_alone-alone.result (view_types c.parameters_of-parameters.result.now) c.parameters_of-parameters.ensures.parameters c.is_alone-alone.ensures.alone);
}

pub returns : goal.returns
returns c = record {
  call = class-made (surroundings_of c.args.classes.now) (view_method_ref c.args.method.now) (operands_of c.args.operands) c.in-Some.class.now (view_tree c.in_ok-tree.tree) (view_exps c.in-Some-2.arguments.exps) c.in-Some.ensures.class
      ((rw c.in-Some-2.is at c.in_ok-arguments.ensures.given)
      ∙ class-same (surroundings_of c.args.classes.now) (view_method_ref c.args.method.now) c.in-Some.class.now (operands_of c.args.operands) c.is_alone-alone.result (view_types c.parameters_of-parameters.result.now) c.parameters_of-parameters.ensures.parameters c.is_alone-alone.ensures.alone)
      c.in_ok-tree.ensures.tree;
}
