use Rattle.std.proofs.Common.{◌≡◌, ◌++◌, map, drop}
use Rattle.dj_syntax.specs.Trees.{view_stm, view_group, view_catch}
use Rattle.dj_renumber.specs.Views.{names_of}
use Rattle.dj_renumber.proofs.Lists.{stm_by, group_by, catch_by}
use Rattle.dj_renumber.proofs.statements.+stm_renamed.Given as goal

abbrev pub invariant-all_renamed-loop-statement : goal.invariant-all_renamed-loop-statement
invariant-all_renamed-loop-statement l = map view_stm l.made ++ map (stm_by (names_of l.names)) (drop l.statement-index l.list) ≡ map (stm_by (names_of l.names)) l.list

abbrev pub invariant-groups_renamed-loop-group : goal.invariant-groups_renamed-loop-group
invariant-groups_renamed-loop-group l = map view_group l.made ++ map (group_by (names_of l.names)) (drop l.group-index l.list) ≡ map (group_by (names_of l.names)) l.list

abbrev pub invariant-clauses_renamed-loop-clause : goal.invariant-clauses_renamed-loop-clause
invariant-clauses_renamed-loop-clause l = map view_catch l.made ++ map (catch_by (names_of l.names)) (drop l.clause-index l.list) ≡ map (catch_by (names_of l.names)) l.list
