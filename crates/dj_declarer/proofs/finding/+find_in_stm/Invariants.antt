use Rattle.std.proofs.Common.{◌≡◌, drop}
use Rattle.dj_syntax.specs.Trees.{view_catches, view_groups, view_stms}
use Rattle.dj_declaring.specs.Occurring as spec
use Rattle.dj_declarer.proofs.finding.+find_in_stm.Given as goal

abbrev pub invariant-find_in_list-loop-statement : goal.invariant-find_in_list-loop-statement
invariant-find_in_list-loop-statement l = spec.stms_found (view_stms (drop l.statement-index l.list)) l.found ≡ spec.stms_found (view_stms l.list) l.fn.found

abbrev pub invariant-find_in_groups-loop-group : goal.invariant-find_in_groups-loop-group
invariant-find_in_groups-loop-group l = spec.groups_found (view_groups (drop l.group-index l.groups)) l.found ≡ spec.groups_found (view_groups l.groups) l.fn.found

abbrev pub invariant-find_in_clauses-loop-clause : goal.invariant-find_in_clauses-loop-clause
invariant-find_in_clauses-loop-clause l = spec.catches_found (view_catches (drop l.clause-index l.clauses)) l.found ≡ spec.catches_found (view_catches l.clauses) l.fn.found
