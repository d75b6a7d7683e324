use Rattle.std.proofs.Common.{◌≡◌, false, map, take, reverse}
use Rattle.std.specs.Prelude.{slice_index_or}
use Rattle.dj_receivers.proofs.bits.picked.Given as goal

abbrev pub invariant-loop-place : goal.invariant-loop-place
invariant-loop-place l = l.found ≡ map (λ place. slice_index_or (reverse l.marks) place false) (take l.place-index l.places)
