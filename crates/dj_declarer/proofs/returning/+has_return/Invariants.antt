use Rattle.std.proofs.Common.{◌≡◌, drop}
use Rattle.dj_syntax.specs.Trees.{view_catches, view_groups, view_stms}
use Rattle.dj_declaring.specs.Returning as spec
use Rattle.dj_declarer.proofs.returning.+has_return.Given as goal

abbrev pub invariant-list_has_return-loop-statement : goal.invariant-list_has_return-loop-statement
invariant-list_has_return-loop-statement l = spec.list_has_return (view_stms (drop l.statement-index l.list)) ≡ spec.list_has_return (view_stms l.list)

abbrev pub invariant-groups_have_return-loop-group : goal.invariant-groups_have_return-loop-group
invariant-groups_have_return-loop-group l = spec.groups_have_return (view_groups (drop l.group-index l.groups)) ≡ spec.groups_have_return (view_groups l.groups)

abbrev pub invariant-clauses_have_return-loop-clause : goal.invariant-clauses_have_return-loop-clause
invariant-clauses_have_return-loop-clause l = spec.clauses_have_return (view_catches (drop l.clause-index l.clauses)) ≡ spec.clauses_have_return (view_catches l.clauses)
