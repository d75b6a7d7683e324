use Rattle.std.proofs.Common.{◌≡◌, drop}
use Rattle.dj_reach.specs.Jumps.{is_one_of}
use Rattle.dj_reach.proofs.jump.is_one_of.Given as goal

abbrev pub invariant-loop-jump : goal.invariant-loop-jump
invariant-loop-jump l = is_one_of l.wanted (drop l.jump-index l.jumps) ≡ is_one_of l.wanted l.jumps
