use Rattle.std.proofs.Common.{◌≡◌, ◌++◌, drop}
use Rattle.dj_reach.specs.Walks.{others}
use Rattle.dj_reach.proofs.walk.add_others.Given as goal

abbrev pub invariant-loop-jump : goal.invariant-loop-jump
invariant-loop-jump l = l.jumps ++ others l.label (drop l.jump-index l.from) ≡ l.fn.jumps ++ others l.label l.from
