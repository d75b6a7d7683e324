use Rattle.std.proofs.Common.{◌≡◌, drop}
use Rattle.dj_rebuilt.specs.Moving.{have_words}
use Rattle.dj_pending.specs.Stacks.{stacked}
use Rattle.dj_pending.proofs.moving.has_words.Given as goal

abbrev pub invariant-loop-place : goal.invariant-loop-place
invariant-loop-place l = have_words (drop l.place l.takes) (drop l.place (stacked l.stack)) ≡ have_words l.takes (stacked l.stack)
