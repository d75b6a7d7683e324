use Rattle.std.proofs.Common.{◌≡◌, drop}
use Rattle.dj_syntax.specs.Trees.{view_stms}
use Rattle.dj_assigned.specs.Walks.{list_jumped_over}
use Rattle.dj_assigned.proofs.statements.jump_over_all.Given as goal

abbrev pub invariant-loop-statement : goal.invariant-loop-statement
invariant-loop-statement l = list_jumped_over (view_stms (drop l.statement-index l.list)) l.unassigned ≡ list_jumped_over (view_stms l.list) l.fn.unassigned
