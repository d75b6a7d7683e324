use Rattle.std.proofs.Common.{◌≡◌, ◌++◌, ◌-◌, drop, length}
use Rattle.dj_applying.proofs.forms.push_all.Given as goal

abbrev pub invariant-loop-place : goal.invariant-loop-place
invariant-loop-place l = l.stack ≡ drop (length l.tags - l.place) l.tags ++ l.initial.stack
