use Rattle.std.proofs.Common.{◌≡◌, ◌∷◌, flat_map}
use Rattle.std.specs.List.{range_with_len}
use Rattle.dj_make.specs.Made.{addition}
use Rattle.dj_make.proofs.code.adding_code.Given as goal

abbrev pub invariant-loop-j : goal.invariant-loop-j
invariant-loop-j l = l.code.items ≡ 26 ∷ flat_map (addition l.k) (range_with_len 0 l.j)
