use Rattle.std.proofs.Common.{◌≡◌, drop}
use Rattle.dj_syntax.specs.Trees.{view_catches, view_groups, view_stms}
use Rattle.dj_declaring.specs.Labels as spec
use Rattle.dj_declarer.proofs.labels.+top_label.Given as goal

abbrev pub invariant-list_top_label-loop-statement : goal.invariant-list_top_label-loop-statement
invariant-list_top_label-loop-statement l = spec.list_top_label (view_stms (drop l.statement-index l.list)) l.behind ≡ spec.list_top_label (view_stms l.list) l.top

abbrev pub invariant-groups_top_label-loop-group : goal.invariant-groups_top_label-loop-group
invariant-groups_top_label-loop-group l = spec.groups_top_label (view_groups (drop l.group-index l.groups)) l.behind ≡ spec.groups_top_label (view_groups l.groups) l.top

abbrev pub invariant-clauses_top_label-loop-clause : goal.invariant-clauses_top_label-loop-clause
invariant-clauses_top_label-loop-clause l = spec.clauses_top_label (view_catches (drop l.clause-index l.clauses)) l.behind ≡ spec.clauses_top_label (view_catches l.clauses) l.top
