use Rattle.std.proofs.Common.{◌≡◌, drop}
use Rattle.dj_names.specs.Types.{view_types}
use Rattle.dj_syntax.specs.Trees.{view_exps}
use Rattle.dj_pending.specs.Operands.{operands_of}
use Rattle.dj_member_trees.specs.Given.{given}
use Rattle.dj_member_trees.proofs.GivenLemmas.{behind_exps}
use Rattle.dj_member_trees.proofs.arguments.given.Given as goal

abbrev pub invariant-parameters : goal.invariant-parameters
invariant-parameters l =
    behind_exps (view_exps l.arguments.exps) (given l.headers l.alone (operands_of l.left) (view_types (drop l.kind-index l.parameters))) ≡ given l.headers l.alone (operands_of l.fn.operands) (view_types l.parameters)
