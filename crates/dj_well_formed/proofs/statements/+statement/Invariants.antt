use Rattle.std.proofs.Common.{◌↔◌, drop}
use Rattle.dj_syntax.specs.Trees.{view_catches, view_groups, view_stms}
use Rattle.dj_syntax.specs.WellFormed.{AreWellFormedCatches, AreWellFormedGroups, AreWellFormedStms}
use Rattle.dj_well_formed.proofs.statements.+statement.Given as goal

abbrev pub invariant-are_well_formed_stms-loop-statement : goal.invariant-are_well_formed_stms-loop-statement
invariant-are_well_formed_stms-loop-statement l =
    AreWellFormedStms l.helper (view_stms (drop l.statement-index l.list)) ↔ AreWellFormedStms l.helper (view_stms l.list)

abbrev pub invariant-are_well_formed_groups-loop-index : goal.invariant-are_well_formed_groups-loop-index
invariant-are_well_formed_groups-loop-index l =
    AreWellFormedGroups l.helper (view_groups (drop l.index l.list)) ↔ AreWellFormedGroups l.helper (view_groups l.list)

abbrev pub invariant-are_well_formed_catches-loop-catch : goal.invariant-are_well_formed_catches-loop-catch
invariant-are_well_formed_catches-loop-catch l =
    AreWellFormedCatches l.helper (view_catches (drop l.catch-index l.list)) ↔ AreWellFormedCatches l.helper (view_catches l.list)
