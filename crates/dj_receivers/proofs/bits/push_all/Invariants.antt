use Rattle.std.proofs.Common.{◌≡◌, ◌-◌, ◌++◌, drop, reverse, length}
use Rattle.dj_receivers.proofs.bits.push_all.Given as goal

abbrev pub invariant-loop-place : goal.invariant-loop-place
invariant-loop-place l = reverse l.marks ≡ drop (length l.more - l.place) l.more ++ reverse l.fn.marks
