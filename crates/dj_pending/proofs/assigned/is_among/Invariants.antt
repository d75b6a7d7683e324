use Rattle.std.proofs.Common.{◌≡◌, drop}
use Rattle.dj_pending.specs.Assigned.{is_among}
use Rattle.dj_pending.proofs.assigned.is_among.Given as goal

abbrev pub invariant-loop-one : goal.invariant-loop-one
invariant-loop-one l = is_among (drop l.one-index l.variables) l.variable ≡ is_among l.variables l.variable
