use Rattle.std.proofs.Common.{◌≡◌, drop}
use Rattle.dj_syntax.specs.Trees.{view_catches, view_groups, view_stms}
use Rattle.dj_thrown.specs.Assigning as spec
use Rattle.dj_thrown.proofs.assigning.+sets.Given as goal

abbrev pub invariant-list_sets-loop-statement : goal.invariant-list_sets-loop-statement
invariant-list_sets-loop-statement l = spec.list_sets l.wanted (view_stms (drop l.statement-index l.list)) ≡ spec.list_sets l.wanted (view_stms l.list)

abbrev pub invariant-groups_set-loop-group : goal.invariant-groups_set-loop-group
invariant-groups_set-loop-group l = spec.groups_set l.wanted (view_groups (drop l.group-index l.groups)) ≡ spec.groups_set l.wanted (view_groups l.groups)

abbrev pub invariant-catches_set-loop-catch : goal.invariant-catches_set-loop-catch
invariant-catches_set-loop-catch l = spec.catches_set l.wanted (view_catches (drop l.catch-index l.catches)) ≡ spec.catches_set l.wanted (view_catches l.catches)
