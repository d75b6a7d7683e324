use Rattle.std.proofs.Common.{◌≡◌, drop}
use Rattle.dj_declaring.specs.Entries as spec
use Rattle.dj_renumber.proofs.copies.place_in.Given as goal

abbrev pub invariant-loop-place : goal.invariant-loop-place
invariant-loop-place l = spec.place_in (drop l.place l.list) l.place l.number ≡ spec.place_in l.list 0 l.number
