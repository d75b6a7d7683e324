use Rattle.std.proofs.Common.{◌≡◌, drop}
use Rattle.dj_syntax.specs.Trees.{view_catches, view_groups, view_stms}
use Rattle.dj_places.specs.Surroundings.{surroundings_of}
use Rattle.dj_declaring.specs.Passes as spec
use Rattle.dj_lawful.specs.PassViews.{view_list, view_made_clauses, view_made_groups}
use Rattle.dj_lawful.proofs.walk.+pass.Given as goal

abbrev pub invariant-pass_list-loop-statement : goal.invariant-pass_list-loop-statement
invariant-pass_list-loop-statement l =
    spec.pass_list (surroundings_of l.classes) l.leaving (view_stms (drop l.statement-index l.list)) (view_list l.made) ≡ spec.pass_list (surroundings_of l.classes) l.leaving (view_stms l.list) (view_list l.fn.made)

abbrev pub invariant-pass_groups-loop-group : goal.invariant-pass_groups-loop-group
invariant-pass_groups-loop-group l =
    spec.pass_groups (surroundings_of l.classes) l.leaving (view_groups (drop l.group-index l.groups)) (view_made_groups l.made) ≡ spec.pass_groups (surroundings_of l.classes) l.leaving (view_groups l.groups) (view_made_groups l.fn.made)

abbrev pub invariant-pass_clauses-loop-clause : goal.invariant-pass_clauses-loop-clause
invariant-pass_clauses-loop-clause l =
    spec.pass_clauses (surroundings_of l.classes) l.leaving (view_catches (drop l.clause-index l.clauses)) (view_made_clauses l.made) ≡ spec.pass_clauses (surroundings_of l.classes) l.leaving (view_catches l.clauses) (view_made_clauses l.fn.made)
