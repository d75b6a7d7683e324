use Rattle.std.proofs.Common.{◌≤◌, ◌↔◌, length}
use Rattle.dj_depth.specs.Depth.{GoesDeep, IsDeep, depth, most_depth}
use Rattle.dj_depth.proofs.depth.is_deep.Given as goal

abbrev pub invariant-loop-word : goal.invariant-loop-word
invariant-loop-word l = record { shallow : depth l.nesting ≤ most_depth; same : GoesDeep l.nesting l.reader ↔ IsDeep l.text }

abbrev pub decreases-loop-word : goal.decreases-loop-word
decreases-loop-word l = length l.reader
