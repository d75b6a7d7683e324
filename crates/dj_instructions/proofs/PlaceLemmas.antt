-- What a search by halves finds among instructions whose pcs rise.
use Rattle.std.proofs.Common.{◌≡◌, ◌≢◌, ℕ, zero, suc, ◌+◌, ◌<◌, ◌≤◌, ◌==◌, true, false, List, [], ◌∷◌, length, Some, None, Result, Ok, Err, IfOk, IfErr, refl, sym, subst, arith, ne_eqb, inl, inr}
use Rattle.std.specs.Prelude.{slice_index_or}
use Rattle.std.specs.List.Sorted.{IsSearchInRange, IsBinarySearchResult, IsNonDecreasingBy}
use Rattle.std.specs.Ordering.{nat_cmp, ordering_index}
use Rattle.std.proofs.lemmas.Cmp.{ranked}
use Rattle.std.proofs.lemmas.Bool.{cases_lt}
use Rattle.std.proofs.lemmas.Bool.Decides.{nat_tests}
use Rattle.dj_instructions.specs.declared.instruction.Instruction as declared
use Rattle.dj_instructions.specs.Instructions.{IsRising, IsRisingFrom, instruction_at, view_instruction, view_instructions}
use Rattle.dj_instructions.specs.Places.{IsPlaceOf, IsNoPlace}

abbrev Listed : Type 0
Listed = List (ℕ × declared.Instruction)

-- the pcs rise from the first one on
from_start : (l : Listed) → IsRising (view_instructions l) → IsRisingFrom 0 (view_instructions l)
from_start [] rising = tt
from_start (x ∷ l) rising = let one : x.0 + 1 ≡ 1 = omega (arith, rising.0) in (omega arith, subst (λ (n : ℕ). IsRisingFrom n (view_instructions l)) (sym one) rising.1)

-- no pc is below where they begin
at_least : (l : Listed) (least place : ℕ) (d : ℕ × declared.Instruction) → IsRisingFrom least (view_instructions l) → place < length l → least ≤ (slice_index_or l place d).0
at_least [] least place d rising within = absurd (omega arith)
at_least (x ∷ l) least zero d rising within = rising.0
at_least (x ∷ l) least (suc place) d rising within = omega (arith, rising.0, at_least l (x.0 + 1) place d rising.1 (omega arith))

-- a later pc isn't below an earlier one
pcs_rise : (l : Listed) (least i j : ℕ) (d : ℕ × declared.Instruction) → IsRisingFrom least (view_instructions l) → i ≤ j → j < length l → (slice_index_or l i d).0 ≤ (slice_index_or l j d).0
pcs_rise [] least i j d rising le within = absurd (omega arith)
pcs_rise (x ∷ l) least zero zero d rising le within = omega arith
pcs_rise (x ∷ l) least zero (suc j) d rising le within = omega (arith, at_least l (x.0 + 1) j d rising.1 (omega arith))
pcs_rise (x ∷ l) least (suc i) zero d rising le within = absurd (omega arith)
pcs_rise (x ∷ l) least (suc i) (suc j) d rising le within = pcs_rise l (x.0 + 1) i j d rising.1 (omega arith) (omega arith)

module _ (l : Listed) (rising : IsRising (view_instructions l)) (pc : ℕ) where
  -- the comparisons with the pc rise along the list, as a search by halves asks
  comparisons_rise : IsNonDecreasingBy (λ x. ordering_index (nat_cmp x.0 pc)) l
  comparisons_rise = λ i j d le within. let rise = pcs_rise l 0 i j d (from_start l rising) le within in grind (arith, nat_tests)

  -- a search by halves ends at the pc, or where there is none
  pub searched : (r : Result ℕ ℕ) → IsSearchInRange r (length l) → IsBinarySearchResult (λ x. nat_cmp x.0 pc) l r → record { found : IfOk r (IsPlaceOf l pc); absent : IfErr r (λ _. IsNoPlace l pc) }
  searched (Ok place) within equal = record { found = record { within = within; here = λ d. ranked _ pc _ (sym (equal d)) }; absent = tt }
  searched (Err place) within parted = record {
    found = tt;
    absent = record {
      none = λ k d within_list same. elim (cases_lt k place) [
        | inl below ↦ let less : (slice_index_or l k d).0 < pc = ranked _ pc _ (sym ((parted comparisons_rise).0 k d (omega arith) below)) in absurd (omega (arith, less, same))
        | inr above ↦ let greater : pc < (slice_index_or l k d).0 = ranked _ pc _ (sym ((parted comparisons_rise).1 k d above within_list)) in absurd (omega (arith, greater, same))
      ];
    };
  }

-- ---- the instruction at a place

test_fails : (m n : ℕ) → m ≢ n → (m == n) ≡ false
test_fails m n differ = ne_eqb m n differ

test_holds : (m n : ℕ) → m ≡ n → (m == n) ≡ true
test_holds m n same = grind (arith, nat_tests)

there : (l : Listed) (least place pc : ℕ) (d : ℕ × declared.Instruction) → IsRisingFrom least (view_instructions l) → place < length l → (slice_index_or l place d).0 ≡ pc → Some (view_instruction (slice_index_or l place d).1) ≡ instruction_at (view_instructions l) pc
there [] least place pc d rising within here = absurd (omega arith)
there (x ∷ l) least zero pc d rising within here = rw (test_holds x.0 pc here) refl
there (x ∷ l) least (suc place) pc d rising within here =
    let above = at_least l (x.0 + 1) place d rising.1 (omega arith) in
    rw (test_fails x.0 pc (λ same. omega (arith, same, above, here))) (there l (x.0 + 1) place pc d rising.1 (omega arith) here)

pub at_place : (l : Listed) (pc place : ℕ) (d : ℕ × declared.Instruction) → IsRising (view_instructions l) → IsPlaceOf l pc place → Some (view_instruction (slice_index_or l place d).1) ≡ instruction_at (view_instructions l) pc
at_place l pc place d rising is = there l 0 place pc d (from_start l rising) is.within (is.here d)

pub at_no_place : (l : Listed) (pc : ℕ) → IsNoPlace l pc → None ≡ instruction_at (view_instructions l) pc
at_no_place [] pc is = refl
at_no_place (x ∷ l) pc is = rw (test_fails x.0 pc (is.none 0 x (omega arith))) (at_no_place l pc record { none = λ place other within. is.none (suc place) other (omega arith) })
