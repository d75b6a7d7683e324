use Rattle.std.proofs.Common.{◌≡◌, drop}
use Rattle.dj_syntax.specs.Trees.{view_catches, view_groups, view_stms}
use Rattle.dj_reach.specs.Walks as spec
use Rattle.dj_reach.specs.Walks.{view_site}
use Rattle.dj_reach.proofs.statements.+pass.Given as goal

abbrev pub invariant-pass_list-loop-statement : goal.invariant-pass_list-loop-statement
invariant-pass_list-loop-statement l =
    spec.pass_list (view_site l.site) (view_stms (drop l.statement-index l.list)) l.walk ≡ spec.pass_list (view_site l.site) (view_stms l.list) l.fn.walk

abbrev pub invariant-pass_groups-loop-group : goal.invariant-pass_groups-loop-group
invariant-pass_groups-loop-group l =
    spec.pass_groups (view_site l.site) l.reached (view_groups (drop l.group-index l.groups)) l.walk ≡ spec.pass_groups (view_site l.site) l.reached (view_groups l.groups) l.fn.walk

abbrev pub invariant-pass_catches-loop-catch : goal.invariant-pass_catches-loop-catch
invariant-pass_catches-loop-catch l =
    spec.pass_catches (view_site l.site) l.reached (view_catches (drop l.catch-index l.catches)) l.walk ≡ spec.pass_catches (view_site l.site) l.reached (view_catches l.catches) l.fn.walk
