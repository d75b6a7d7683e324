use Rattle.std.proofs.Common.{◌≡◌, ◌++◌, map, take}
use Rattle.dj_starts.specs.Edges.{plain}
use Rattle.dj_starts.proofs.ways.push_plain.Given as goal

abbrev pub invariant-loop-target : goal.invariant-loop-target
invariant-loop-target l = l.edges ≡ l.initial.edges ++ map plain (take l.target-index l.targets)
