use Rattle.std.proofs.Common.{All, take}
use Rattle.dj_pool.proofs.names.are_plain.Given as goal
use Rattle.std.proofs.Common.{Contains, codes}

abbrev pub invariant-loop-unit : goal.invariant-loop-unit
invariant-loop-unit l = All (λ unit. ¬ Contains (codes ".;[/") unit) (take l.unit-index l.units)
