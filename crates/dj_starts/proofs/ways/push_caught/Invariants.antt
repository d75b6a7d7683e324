use Rattle.std.proofs.Common.{◌≡◌, ◌++◌, length}
use Rattle.dj_starts.specs.Edges.{caught_edges}
use Rattle.dj_starts.proofs.ways.push_caught.Given as goal

abbrev pub invariant-loop-left : goal.invariant-loop-left
invariant-loop-left l = l.edges ++ caught_edges l.left l.pc ≡ l.initial.edges ++ caught_edges l.fn.handlers l.pc

abbrev pub decreases-loop-left : goal.decreases-loop-left
decreases-loop-left l = length l.left
