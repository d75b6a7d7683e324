use Rattle.std.proofs.Common.{◌≡◌, drop}
use Rattle.dj_syntax.specs.Trees.{view_catches, view_groups, view_stms}
use Rattle.dj_numbered.specs.Numbering as spec
use Rattle.dj_renumber.specs.Views.{view_used}
use Rattle.dj_renumber.proofs.uses.+use_in_stm.Given as goal

abbrev pub invariant-use_in_list-loop-statement : goal.invariant-use_in_list-loop-statement
invariant-use_in_list-loop-statement l = spec.stms_used (view_stms (drop l.statement-index l.list)) (view_used l.used) ≡ spec.stms_used (view_stms l.list) (view_used l.fn.used)

abbrev pub invariant-use_in_groups-loop-group : goal.invariant-use_in_groups-loop-group
invariant-use_in_groups-loop-group l = spec.groups_used (view_groups (drop l.group-index l.groups)) (view_used l.used) ≡ spec.groups_used (view_groups l.groups) (view_used l.fn.used)

abbrev pub invariant-use_in_clauses-loop-clause : goal.invariant-use_in_clauses-loop-clause
invariant-use_in_clauses-loop-clause l = spec.catches_used (view_catches (drop l.clause-index l.clauses)) (view_used l.used) ≡ spec.catches_used (view_catches l.clauses) (view_used l.fn.used)
