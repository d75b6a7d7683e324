use Rattle.std.proofs.Common.{ℕ, ◌<◌, slice_index_or}
use Rattle.dj_verify.specs.declared.landing.Landing.{Landing}
use Rattle.dj_verify.specs.Rules.{Covers}
use Rattle.dj_effects.specs.Doing.{view_working}
use Rattle.dj_verify.specs.Landings.{Lands, target_in}
use Rattle.dj_verify.proofs.landing.land.Given as goal

abbrev pub invariant-loop-landing : goal.invariant-loop-landing
invariant-loop-landing g l =
    (k : ℕ) (d : Landing) → k < l.landing-index → Covers (slice_index_or l.landings k d).handler.now l.pc → Lands (g.G.Goes.relation l.goes) (view_working l.frame) (target_in (slice_index_or l.landings k d))
