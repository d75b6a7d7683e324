use Rattle.std.proofs.Common.{ℕ, ℤ, ◌<◌, slice_index_or}
use Rattle.dj_code.specs.MethodCode.{view_code}
use Rattle.dj_verify.specs.Rules.{Reaches}
use Rattle.dj_verify.specs.Frames.{working_of}
use Rattle.dj_verify.proofs.reaching.reaches_cases.Given as goal

abbrev pub invariant-loop-case : goal.invariant-loop-case
invariant-loop-case g l =
    (k : ℕ) (d : ℤ × ℕ) → k < l.case-index → Reaches (g.G.Goes.relation l.goes) (view_code l.subject.code.now) (working_of l.frame) (slice_index_or l.cases k d).1
