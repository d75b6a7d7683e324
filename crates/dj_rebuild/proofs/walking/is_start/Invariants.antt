use Rattle.std.proofs.Common.{◌≡◌, drop}
use Rattle.dj_blocks_shown.specs.Leaving.{is_start}
use Rattle.dj_rebuild.proofs.walking.is_start.Given as goal

abbrev pub invariant-loop-start : goal.invariant-loop-start
invariant-loop-start l = is_start (drop l.start-index l.starts) l.pc ≡ is_start l.starts l.pc
