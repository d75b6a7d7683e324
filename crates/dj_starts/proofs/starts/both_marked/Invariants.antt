use Rattle.dj_starts.proofs.Finding.{IsFound}
use Rattle.dj_starts.proofs.starts.both_marked.Given as goal

abbrev pub invariant-loop-at : goal.invariant-loop-at
invariant-loop-at l = IsFound l.instructions l.at-index l.seen l.begins l.starts
