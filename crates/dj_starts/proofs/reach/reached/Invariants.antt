use Rattle.std.proofs.Common.{◌*◌, ◌+◌, ◌⊎◌, ◌<◌, ℕ, length}
use Rattle.std.specs.List.{Contains}
use Rattle.dj_code.specs.MethodCode.{view_code}
use Rattle.dj_starts.specs.Edges.{Reaches}
use Rattle.dj_starts.specs.Marks.{IsMarked, IsRoom, GoesOn, unmarked}
use Rattle.dj_starts.proofs.reach.reached.Given as goal

abbrev pub invariant-loop-pc : goal.invariant-loop-pc
invariant-loop-pc l = record {
  room : IsRoom (view_code l.code).instructions (length l.seen);
  first : 0 < length l.seen → IsMarked l.seen 0;
  reached : (pc : ℕ) → IsMarked l.seen pc → Reaches (view_code l.code) pc;
  waiting : (pc : ℕ) → Contains l.pending pc → IsMarked l.seen pc;
  closed : (pc : ℕ) → IsMarked l.seen pc → Contains l.pending pc ⊎ GoesOn (view_code l.code) l.seen pc;
}

abbrev pub decreases-loop-pc : goal.decreases-loop-pc
decreases-loop-pc l = 2 * unmarked l.seen + length l.pending
