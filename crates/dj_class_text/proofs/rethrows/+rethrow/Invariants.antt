use Rattle.std.proofs.Common.{◌≡◌, drop}
use Rattle.dj_syntax.specs.Trees.{view_catches, view_groups, view_stms}
use Rattle.dj_class_text.specs.Rethrows.{have_rethrow, groups_have_rethrow, catches_have_rethrow}
use Rattle.dj_class_text.proofs.rethrows.+rethrow.Given as goal

abbrev pub invariant-have_rethrow-loop-statement : goal.invariant-have_rethrow-loop-statement
invariant-have_rethrow-loop-statement l = have_rethrow (view_stms (drop l.statement-index l.list)) ≡ have_rethrow (view_stms l.list)

abbrev pub invariant-groups_have_rethrow-loop-group : goal.invariant-groups_have_rethrow-loop-group
invariant-groups_have_rethrow-loop-group l = groups_have_rethrow (view_groups (drop l.group-index l.list)) ≡ groups_have_rethrow (view_groups l.list)

abbrev pub invariant-catches_have_rethrow-loop-catch : goal.invariant-catches_have_rethrow-loop-catch
invariant-catches_have_rethrow-loop-catch l = catches_have_rethrow (view_catches (drop l.catch-index l.list)) ≡ catches_have_rethrow (view_catches l.list)
