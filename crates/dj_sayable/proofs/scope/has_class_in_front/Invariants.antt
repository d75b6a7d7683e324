use Rattle.std.proofs.Common.{◌≡◌, ℕ, ◌<◌, get_or}
use Rattle.dj_sayable.proofs.FrontLemmas.{IsClassBefore}
use Rattle.dj_sayable.proofs.scope.has_class_in_front.Given as goal

abbrev pub invariant-loop-at : goal.invariant-loop-at
invariant-loop-at l = (k : ℕ) → k < l.at → get_or l.name k 0 ≡ 47 → ¬ IsClassBefore l.headers l.name k
