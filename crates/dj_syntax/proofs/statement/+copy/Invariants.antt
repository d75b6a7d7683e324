use Rattle.std.proofs.Common.{◌≡◌, take}
use Rattle.dj_syntax.proofs.statement.+copy.Given as goal

abbrev pub invariant-copied::copy_list-loop-statement : goal.invariant-copied::copy_list-loop-statement
invariant-copied::copy_list-loop-statement l = l.copy ≡ take l.statement-index l.list

abbrev pub invariant-copied::copy_groups-loop-group : goal.invariant-copied::copy_groups-loop-group
invariant-copied::copy_groups-loop-group l = l.copy ≡ take l.group-index l.list

abbrev pub invariant-copied::copy_catches-loop-catch : goal.invariant-copied::copy_catches-loop-catch
invariant-copied::copy_catches-loop-catch l = l.copy ≡ take l.catch-index l.list
