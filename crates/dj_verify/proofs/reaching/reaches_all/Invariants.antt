use Rattle.std.proofs.Common.{ℕ, ◌<◌, slice_index_or}
use Rattle.dj_code.specs.MethodCode.{view_code}
use Rattle.dj_verify.specs.Rules.{Reaches}
use Rattle.dj_verify.specs.Frames.{working_of}
use Rattle.dj_verify.proofs.reaching.reaches_all.Given as goal

abbrev pub invariant-loop-target : goal.invariant-loop-target
invariant-loop-target g l =
    (k d : ℕ) → k < l.target-index → Reaches (g.G.Goes.relation l.goes) (view_code l.subject.code.now) (working_of l.frame) (slice_index_or l.targets k d)
