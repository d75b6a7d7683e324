use Rattle.std.proofs.Common.{◌≡◌, map, take}
use Rattle.dj_starts.specs.Walking.{birth_of}
use Rattle.dj_starts.proofs.birth.births_at.Given as goal

abbrev pub invariant-loop-start : goal.invariant-loop-start
invariant-loop-start l = l.births ≡ map (birth_of l.calls l.written) (take l.start-index l.news)
