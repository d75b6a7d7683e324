-- How many instructions stand from one offset to another, by their places.
use Rattle.std.proofs.Common.{◌≡◌, ◌⊎◌, ℕ, zero, suc, ◌+◌, ◌<◌, ◌≤◌, ◌==◌, Bool, true, false, List, [], ◌∷◌, Option, Some, None, length, refl, sym, subst, inl, inr, ◌∙◌, arith}
use Rattle.std.specs.Prelude.{slice_index_or, if◌then◌else◌, IsSome}
use Rattle.std.proofs.lemmas.Bool.Decides.{nat_tests}
use Rattle.dj_instructions.specs.declared.instruction.Instruction as declared
use Rattle.dj_instructions.specs.declared.instruction.Instruction.TheVariants as variant
use Rattle.dj_instructions.specs.Instructions.{Instruction, Instructions, IsRising, IsRisingFrom, instruction_at, view_instruction, view_instructions}
use Rattle.dj_instructions.specs.Places.{IsPlaceOf, IsNoPlace}
use Rattle.dj_instructions.proofs.PlaceLemmas.{at_place, at_no_place}
use Rattle.dj_frames.specs.Frames.{Frame}
use Rattle.dj_code.specs.Targets.{IsStart}
use Rattle.dj_starts.specs.Births.{Meets}
use Rattle.dj_starts.proofs.PcLemmas.{at_least, from_start}
use Rattle.dj_birth_causes.specs.OwnCalls.{StandsAt}
use Rattle.dj_birth_causes.specs.Large.{is_in, size_of}

abbrev Listed : Type 0
Listed = List (ℕ × declared.Instruction)

-- ---- tests

-- one more instruction, by whether it stands there
outside : (x : ℕ × Instruction) (rest : Instructions) (start end : ℕ) → is_in start end x.0 ≡ false → size_of (x ∷ rest) start end ≡ size_of rest start end
outside x rest start end out = rw out refl

inside : (x : ℕ × Instruction) (rest : Instructions) (start end : ℕ) → is_in start end x.0 ≡ true → size_of (x ∷ rest) start end ≡ suc (size_of rest start end)
inside x rest start end isin = rw isin refl

past : (start end pc : ℕ) → end < pc → is_in start end pc ≡ false
past start end pc above = grind (arith, nat_tests)

short : (start end pc : ℕ) → pc < start → is_in start end pc ≡ false
short start end pc below = grind (arith, nat_tests)

between : (start end pc : ℕ) → start ≤ pc → pc ≤ end → is_in start end pc ≡ true
between start end pc low high = grind (arith, nat_tests)

-- ---- sizes

-- none stands past the end
none_past : (l : Instructions) (least start end : ℕ) → IsRisingFrom least l → end < least → size_of l start end ≡ 0
none_past [] least start end rising above = refl
none_past (x ∷ l) least start end rising above =
    outside x l start end (past start end x.0 (omega (arith, rising.0, above))) ∙ none_past l (x.0 + 1) start end rising.1 (omega (arith, rising.0, above))

-- up to the place of the end, where they begin behind the start
up_to : (l : Listed) (least start end last : ℕ) (d : ℕ × declared.Instruction) → IsRisingFrom least (view_instructions l) → start ≤ least → last < length l → (slice_index_or l last d).0 ≡ end
    → size_of (view_instructions l) start end ≡ last + 1
up_to [] least start end last d rising low within is = absurd (omega arith)
up_to (x ∷ l) least start end zero d rising low within is =
    inside (x.0, view_instruction x.1) (view_instructions l) start end (between start end x.0 (omega (arith, rising.0, low)) (omega (arith, is)))
    ∙ (let none = none_past (view_instructions l) (x.0 + 1) start end rising.1 (omega (arith, is)) in omega (arith, none))
up_to (x ∷ l) least start end (suc last) d rising low within is =
    let more = up_to l (x.0 + 1) start end last d rising.1 (omega (arith, rising.0, low)) (omega arith) is in
    let high = at_least l (x.0 + 1) last d rising.1 (omega arith) in
    inside (x.0, view_instruction x.1) (view_instructions l) start end (between start end x.0 (omega (arith, rising.0, low)) (omega (arith, is, high))) ∙ omega (arith, more)

-- from the place of the start on
between_places : (l : Listed) (least start end first last : ℕ) (d : ℕ × declared.Instruction) → IsRisingFrom least (view_instructions l) → start ≤ end → first < length l → last < length l
    → (slice_index_or l first d).0 ≡ start → (slice_index_or l last d).0 ≡ end → (first ≤ last) × (size_of (view_instructions l) start end + first ≡ last + 1)
between_places [] least start end first last d rising order from to begins ends = absurd (omega arith)
between_places (x ∷ l) least start end zero last d rising order from to begins ends =
    let whole = up_to (x ∷ l) x.0 start end last d (omega arith, rising.1) (omega (arith, begins)) to ends in (omega arith, omega (arith, whole))
between_places (x ∷ l) least start end (suc first) zero d rising order from to begins ends =
    let above = at_least l (x.0 + 1) first d rising.1 (omega arith) in absurd (omega (arith, above, begins, ends, order))
between_places (x ∷ l) least start end (suc first) (suc last) d rising order from to begins ends =
    let above = at_least l (x.0 + 1) first d rising.1 (omega arith) in
    let more = between_places l (x.0 + 1) start end first last d rising.1 order (omega arith) (omega arith) begins ends in
    let same = outside (x.0, view_instruction x.1) (view_instructions l) start end (short start end x.0 (omega (arith, above, begins))) in
    (omega (arith, more.0), omega (arith, more.1, same))

-- the size of what stands between two instructions is by their places
pub size_is : (l : Listed) (start end first last : ℕ) → IsRising (view_instructions l) → IsPlaceOf l start first → IsPlaceOf l end last → start ≤ end → (first ≤ last) × (size_of (view_instructions l) start end + first ≡ last + 1)
size_is l start end first last rising from to order =
    let d : ℕ × declared.Instruction = (0, variant.Nop) in between_places l 0 start end first last d (from_start l rising) order from.within to.within (from.here d) (to.here d)

-- ---- where instructions begin

pub start_of : (l : Listed) (pc place : ℕ) → IsRising (view_instructions l) → IsPlaceOf l pc place → IsStart (view_instructions l) pc
start_of l pc place rising is = let d : ℕ × declared.Instruction = (0, variant.Nop) in subst (λ (o : Option Instruction). IsSome o) (at_place l pc place d rising is) refl

pub no_start : (l : Listed) (pc : ℕ) → IsNoPlace l pc → ¬ IsStart (view_instructions l) pc
no_start l pc is start = none (subst (λ (o : Option Instruction). IsSome o) (sym (at_no_place l pc is)) start)
  where
    none : IsSome {T = Instruction} None → ⊥
    none some = cc

at_first : (at : ℕ × Instruction) (rest : Instructions) (pc : ℕ) (test : Bool) → (test ≡ true) ⊎ IsStart rest pc → IsSome (if test then Some at.1 else instruction_at rest pc)
at_first at rest pc true either = refl
at_first at rest pc false (inl wrong) = absurd cc
at_first at rest pc false (inr start) = start

same_pc : (m n : ℕ) → m ≡ n → (m == n) ≡ true
same_pc m n same = grind (arith, nat_tests)

-- a call that is met is an instruction
pub met_start : (l : Instructions) (frames : List Frame) (start call : ℕ) → Meets l frames start call → IsStart l call
met_start [] frames start call none = absurd none
met_start (at ∷ rest) frames start call (inl here) = at_first at rest call (at.0 == call) (inl (same_pc at.0 call here.0))
met_start (at ∷ rest) [] start call (inr there) = at_first at rest call (at.0 == call) (inr (met_start rest [] start call there))
met_start (at ∷ rest) (frame ∷ frames) start call (inr there) = at_first at rest call (at.0 == call) (inr (met_start rest frames start call there))

-- so is what passes a test
pub standing_start : (test : Instruction → Frame → Bool) (l : Instructions) (frames : List Frame) (pc : ℕ) → StandsAt test l frames pc → IsStart l pc
standing_start test [] frames pc none = absurd none
standing_start test (at ∷ rest) [] pc none = absurd none
standing_start test (at ∷ rest) (frame ∷ frames) pc (inl here) = at_first at rest pc (at.0 == pc) (inl (same_pc at.0 pc (sym here.0)))
standing_start test (at ∷ rest) (frame ∷ frames) pc (inr there) = at_first at rest pc (at.0 == pc) (inr (standing_start test rest frames pc there))

-- where one begins, one begins at 0
pub first_start : (l : Instructions) (pc : ℕ) → IsRising l → IsStart l pc → IsStart l 0
first_start [] pc rising start = start
first_start (at ∷ rest) pc rising start = at_first at rest 0 (at.0 == 0) (inl (same_pc at.0 0 rising.0))
