use Rattle.std.proofs.Common.{◌≡◌, drop}
use Rattle.dj_syntax.specs.Trees.{view_catches, view_groups, view_stms}
use Rattle.dj_places.specs.Surroundings.{surroundings_of}
use Rattle.dj_assigned.specs.Walks as spec
use Rattle.dj_assigned.proofs.statements.+pass.Given as goal

abbrev pub invariant-pass_list-loop-statement : goal.invariant-pass_list-loop-statement
invariant-pass_list-loop-statement l =
    spec.pass_list (surroundings_of l.classes) (view_stms (drop l.statement-index l.list)) l.course ≡ spec.pass_list (surroundings_of l.classes) (view_stms l.list) l.fn.course

abbrev pub invariant-pass_groups-loop-group : goal.invariant-pass_groups-loop-group
invariant-pass_groups-loop-group l =
    (spec.pass_groups (surroundings_of l.classes) (view_groups (drop l.group-index l.groups)) l.jumped l.course ≡ spec.pass_groups (surroundings_of l.classes) (view_groups l.groups) l.fn.jumped l.fn.course)
    × (spec.groups_jumped_over (view_groups (drop l.group-index l.groups)) l.jumped ≡ spec.groups_jumped_over (view_groups l.groups) l.fn.jumped)

abbrev pub invariant-pass_catches-loop-catch : goal.invariant-pass_catches-loop-catch
invariant-pass_catches-loop-catch l =
    spec.pass_catches (surroundings_of l.classes) (view_catches (drop l.catch-index l.catches)) l.before l.course ≡ spec.pass_catches (surroundings_of l.classes) (view_catches l.catches) l.before l.fn.course
