-- Marks of which each that is missing is missing on some path, along the ways.
use Rattle.std.proofs.Common.{◌↔◌, ℕ, Bool, List, [], ◌∷◌, length, Contains}
use Rattle.dj_code.specs.MethodCode.{Typed}
use Rattle.dj_starts.specs.declared.ways.Edge.{Edge}
use Rattle.dj_starts.specs.Edges.{edges}
use Rattle.dj_receivers.specs.Receivers.{marks_along, fitted, height_at, Arrives, begins, goes}
use Rattle.dj_receivers.specs.Steps.{IsAt, IsBelow, Misses, IsLow}
use Rattle.dj_receivers.proofs.Sources.{Source, Never, Always, From, Tells, sourced_along}

-- past the last mark there is none
none_past : (marks : List Bool) → ¬ IsAt marks (length marks)
none_past [] is = cc
none_past (mark ∷ marks) is = none_past marks is

pub low_begins : (typed : Typed) → IsLow typed 0 (fitted (height_at typed.code.instructions typed.frames 0) [])
low_begins typed = λ place none. record { found = fitted (height_at typed.code.instructions typed.frames 0) []; arrives = begins; misses = none }

-- along a way
pub low_goes : (typed : Typed) (pc : ℕ) (marks : List Bool) (edge : Edge) → IsLow typed pc marks → Contains (edges typed.code pc) edge → IsLow typed edge.target (marks_along typed pc marks edge)
low_goes typed pc marks edge low way place none = by_source (sourced_along typed pc edge place).source (sourced_along typed pc edge place).tells
  where
    with_path : (found : List Bool) → Arrives typed pc found → ¬ IsAt (marks_along typed pc found edge) place → Misses typed edge.target place
    with_path found path lost = record { found = marks_along typed pc found edge; arrives = goes path way; misses = lost }

    by_source : (source : Source) → ((some : List Bool) → IsAt (marks_along typed pc some edge) place ↔ Tells source some) → Misses typed edge.target place
    by_source Never tells = let any = low (length marks) (none_past marks) in with_path any.found any.arrives (λ is. (tells any.found).0 is)
    by_source Always tells = absurd (none ((tells marks).1 tt))
    by_source (From at) tells = let lost = low at (λ is. none ((tells marks).1 is)) in with_path lost.found lost.arrives (λ is. lost.misses ((tells lost.found).0 is))

-- fewer marks lead to fewer
pub below_goes : (typed : Typed) (pc : ℕ) (fewer more : List Bool) (edge : Edge) → IsBelow fewer more → IsBelow (marks_along typed pc fewer edge) (marks_along typed pc more edge)
below_goes typed pc fewer more edge below place is = by_source (sourced_along typed pc edge place).source (sourced_along typed pc edge place).tells
  where
    by_source : (source : Source) → ((some : List Bool) → IsAt (marks_along typed pc some edge) place ↔ Tells source some) → IsAt (marks_along typed pc more edge) place
    by_source Never tells = absurd ((tells fewer).0 is)
    by_source Always tells = (tells more).1 tt
    by_source (From at) tells = (tells more).1 (below at ((tells fewer).0 is))

-- marks among which are all of others
pub low_above : (typed : Typed) (pc : ℕ) (marks others : List Bool) → IsLow typed pc marks → IsBelow marks others → IsLow typed pc others
low_above typed pc marks others low below place none = low place (λ is. none (below place is))
