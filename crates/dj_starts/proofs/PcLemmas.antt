-- Instructions by their pcs: those from one on, and pcs behind the last.
use Rattle.std.proofs.Common.{◌≡◌, ℕ, zero, suc, ◌+◌, ◌<◌, ◌≤◌, ◌==◌, Bool, true, false, List, [], ◌∷◌, length, drop, refl, arith, ne_eqb}
use Rattle.std.specs.Prelude.{slice_index_or, if◌then◌else◌, IsSome, Some}
use Rattle.std.proofs.lemmas.Bool.Decides.{nat_tests}
use Rattle.dj_instructions.specs.declared.instruction.Instruction as declared
use Rattle.dj_instructions.specs.Instructions.{Instruction, Instructions, IsRising, IsRisingFrom, instruction_at, view_instructions}
use Rattle.dj_instructions.specs.Places.{IsPlaceOf, IsNoPlace}
use Rattle.dj_code.specs.Targets.{IsStart}
use Rattle.dj_starts.specs.Edges.{from_pc}

abbrev Listed : Type 0
Listed = List (ℕ × declared.Instruction)

-- no pc is below where they begin
pub at_least : (l : Listed) (least place : ℕ) (d : ℕ × declared.Instruction) → IsRisingFrom least (view_instructions l) → place < length l → least ≤ (slice_index_or l place d).0
at_least [] least place d rising within = absurd (omega arith)
at_least (x ∷ l) least zero d rising within = rising.0
at_least (x ∷ l) least (suc place) d rising within = omega (arith, rising.0, at_least l (x.0 + 1) place d rising.1 (omega arith))

-- the pcs rise from the first one on
pub from_start : (l : Listed) → IsRising (view_instructions l) → IsRisingFrom 0 (view_instructions l)
from_start [] rising = tt
from_start (x ∷ l) rising = let one : x.0 + 1 ≡ 1 = omega (arith, rising.0) in (omega arith, rw one rising.1)

same_pc : (m n : ℕ) → m ≡ n → (m == n) ≡ true
same_pc m n same = grind (arith, nat_tests)

from_here : (l : Listed) (least place pc : ℕ) (d : ℕ × declared.Instruction) → IsRisingFrom least (view_instructions l) → place < length l → (slice_index_or l place d).0 ≡ pc → view_instructions (drop place l) ≡ from_pc pc (view_instructions l)
from_here [] least place pc d rising within here = absurd (omega arith)
from_here (x ∷ l) least zero pc d rising within here = rw (same_pc x.0 pc here) refl
from_here (x ∷ l) least (suc place) pc d rising within here =
    let above = at_least l (x.0 + 1) place d rising.1 (omega arith) in
    rw (ne_eqb x.0 pc (λ same. omega (arith, same, above, here))) (from_here l (x.0 + 1) place pc d rising.1 (omega arith) here)

-- from a place on
pub from_place : (l : Listed) (pc place : ℕ) (d : ℕ × declared.Instruction) → IsRising (view_instructions l) → IsPlaceOf l pc place → view_instructions (drop place l) ≡ from_pc pc (view_instructions l)
from_place l pc place d rising is = from_here l 0 place pc d (from_start l rising) is.within (is.here d)

-- from no place
pub from_no_place : (l : Listed) (pc : ℕ) → IsNoPlace l pc → from_pc pc (view_instructions l) ≡ []
from_no_place [] pc is = refl
from_no_place (x ∷ l) pc is = rw (ne_eqb x.0 pc (is.none 0 x (omega arith))) (from_no_place l pc record { none = λ place other within. is.none (suc place) other (omega arith) })

-- behind the last
pub past_last : (l : Listed) (least place pc : ℕ) (d : ℕ × declared.Instruction) → IsRisingFrom least (view_instructions l) → place + 1 ≡ length l → (slice_index_or l place d).0 < pc → from_pc pc (view_instructions l) ≡ []
past_last [] least place pc d rising last above = refl
past_last (x ∷ []) least zero pc d rising last above = rw (ne_eqb x.0 pc (λ same. omega (arith, same, above))) refl
past_last (x ∷ y ∷ l) least zero pc d rising last above = absurd (omega arith)
past_last (x ∷ l) least (suc place) pc d rising last above =
    let low = at_least l (x.0 + 1) place d rising.1 (omega arith) in
    rw (ne_eqb x.0 pc (λ same. omega (arith, same, above, low))) (past_last l (x.0 + 1) place pc d rising.1 (omega arith) above)

-- where none is from the pc on, none begins there
step_none : (b : Bool) (at : ℕ × Instruction) (rest more : Instructions) (pc : ℕ) → ((if b then at ∷ rest else more) ≡ []) → IsSome (if b then Some at.1 else instruction_at rest pc) → (more ≡ [] → IsStart rest pc → ⊥) → ⊥
step_none true at rest more pc none start next = cc
step_none false at rest more pc none start next = next none start

pub none_starts : (l : Instructions) (pc : ℕ) → from_pc pc l ≡ [] → IsStart l pc → ⊥
none_starts [] pc none start = cc
none_starts (at ∷ rest) pc none start = step_none (at.0 == pc) at rest (from_pc pc rest) pc none start (λ none start. none_starts rest pc none start)
