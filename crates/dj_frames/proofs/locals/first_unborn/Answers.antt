use Rattle.std.proofs.Common.{sym, ◌∙◌, arith}
use Rattle.dj_frames.proofs.Spreading.{unborn_kept, unborn_here}
use Rattle.dj_frames.proofs.locals.first_unborn.Goals as goal

pub returns-in-Some : goal.returns-in-Some
returns-in-Some c = record { first = unborn_kept c.args.values.now c.args.known c.in-Some.at (sym c.requires.known ∙ c.in-Some.is) }

pub returns-then-is_unborn_this : goal.returns-then-is_unborn_this
returns-then-is_unborn_this c = record { first = unborn_here c.args.values.now c.loop-place.place c.index-values-place.result (omega (arith, c.loop-place-test.true)) c.index-values-place.is c.loop-place.invariant (sym c.if-is_unborn_this.ensures.unborn) }
