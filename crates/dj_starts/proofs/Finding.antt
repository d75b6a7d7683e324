-- The instructions that are marked in two lists, found one behind another.
use Rattle.std.proofs.Common.{◌≡◌, ℕ, zero, suc, ◌+◌, ◌<◌, ◌≤◌, ◌⊎◌, ◌↔◌, Bool, List, [], ◌∷◌, ◌++◌, length, take, get_or, refl, sym, subst, inl, inr, arith}
use Rattle.std.specs.List.{Contains, AllPairs}
use Rattle.std.proofs.lemmas.List.{take_more, take_all, length_push, get_or_append_left, get_or_push, get_or_read}
use Rattle.std.proofs.lemmas.List.Elements.{Contains-append_left, Contains-push, Contains-push_cases}
use Rattle.std.proofs.lemmas.List.Quantifiers.{all_pairs_push}
use Rattle.std.proofs.lemmas.Bool.{cases_lt}
use Rattle.std.proofs.lemmas.Bool.Decides.{eqb_tells}
use Rattle.dj_instructions.specs.declared.instruction.Instruction as declared
use Rattle.dj_instructions.specs.Instructions.{IsRisingFrom, view_instructions}
use Rattle.dj_code.specs.Targets.{IsStart}
use Rattle.dj_starts.specs.Marks.{IsMarked, IsBothMarked}
use Rattle.dj_starts.proofs.Marking.{contains_none}
use Rattle.dj_starts.proofs.PcLemmas.{at_least}

abbrev Listed : Type 0
Listed = List (ℕ × declared.Instruction)

none : (pc : ℕ) → IsStart [] pc → ⊥
none pc start = absurd (cc)

-- ---- one instruction more

start_push : (l : Listed) (x : ℕ × declared.Instruction) (pc : ℕ) → IsStart (view_instructions (l ++ x ∷ [])) pc → IsStart (view_instructions l) pc ⊎ (pc ≡ x.0)
start_push [] x pc start = elim (eqb_tells x.0 pc) [ inl same ↦ inr (sym same.1) | inr differ ↦ absurd (none pc (rw differ.0 at start)) ]
start_push (y ∷ l) x pc start = elim (eqb_tells y.0 pc) [
  | inl same ↦ inl (rw same.0 refl)
  | inr differ ↦ elim (start_push l x pc (rw differ.0 at start)) [ inl old ↦ inl (rw differ.0 old) | inr new ↦ inr new ]
]

start_old : (l : Listed) (x : ℕ × declared.Instruction) (pc : ℕ) → IsStart (view_instructions l) pc → IsStart (view_instructions (l ++ x ∷ [])) pc
start_old [] x pc start = absurd (none pc start)
start_old (y ∷ l) x pc start = elim (eqb_tells y.0 pc) [ inl same ↦ rw same.0 refl | inr differ ↦ rw differ.0 (start_old l x pc (rw differ.0 at start)) ]

start_new : (l : Listed) (x : ℕ × declared.Instruction) → IsStart (view_instructions (l ++ x ∷ [])) x.0
start_new [] x = elim (eqb_tells x.0 x.0) [ inl same ↦ rw same.0 refl | inr differ ↦ absurd (differ.1 refl) ]
start_new (y ∷ l) x = elim (eqb_tells y.0 x.0) [ inl same ↦ rw same.0 refl | inr differ ↦ rw differ.0 (start_new l x) ]

-- a later pc is above an earlier one
pcs_above : (l : Listed) (least i j : ℕ) (d : ℕ × declared.Instruction) → IsRisingFrom least (view_instructions l) → i < j → j < length l → (get_or l i d).0 < (get_or l j d).0
pcs_above [] least i j d rising less within = absurd (omega arith)
pcs_above (x ∷ l) least i zero d rising less within = absurd (omega arith)
pcs_above (x ∷ l) least zero (suc j) d rising less within = omega (arith, at_least l (x.0 + 1) j d rising.1 (omega arith))
pcs_above (x ∷ l) least (suc i) (suc j) d rising less within = pcs_above l (x.0 + 1) i j d rising.1 (omega arith) (omega arith)

-- ---- what is found

-- the pcs of the first so many instructions that are marked in both lists
pub record IsFound (all : Listed) (i : ℕ) (first second : List Bool) (starts : List ℕ) : Type 0 where
  pub exact : (pc : ℕ) → Contains starts pc ↔ IsBothMarked (view_instructions (take i all)) first second pc
  pub low : (place : ℕ) (d : ℕ × declared.Instruction) → i ≤ place → place < length all → (k e : ℕ) → k < length starts → get_or starts k e < (get_or all place d).0
  pub pairs : AllPairs (λ x y. x < y) starts

module _ (all : Listed) (first second : List Bool) where
  pub found_none : IsFound all 0 first second []
  found_none = record {
    exact = λ pc. (λ h. absurd (contains_none pc h), λ both. absurd (none pc both.at));
    low = λ place d above within k e short. absurd (omega arith);
    pairs = λ i j d less within. absurd (omega arith);
  }

  module _ (rising : IsRisingFrom 0 (view_instructions all)) (i : ℕ) (x : ℕ × declared.Instruction) (within : i < length all) (is : x ≡ get_or all i x) (starts : List ℕ) (so_far : IsFound all i first second starts) where
    taken : take (i + 1) all ≡ take i all ++ x ∷ []
    taken = subst (λ y. take (i + 1) all ≡ take i all ++ y ∷ []) (sym is) (take_more all i x within)

    -- it isn't marked in both
    pub found_skip : (IsMarked first x.0 → IsMarked second x.0 → ⊥) → IsFound all (i + 1) first second starts
    found_skip not_both = record {
      exact = λ pc. (
        λ h. let both = (so_far.exact pc).0 h in record { at = rw taken (start_old (take i all) x pc both.at); one = both.one; other = both.other },
        λ both. elim (start_push (take i all) x pc (rw taken at both.at)) [
          | inl old ↦ (so_far.exact pc).1 record { at = old; one = both.one; other = both.other }
          | inr new ↦ absurd (not_both (subst (λ n. IsMarked first n) new both.one) (subst (λ n. IsMarked second n) new both.other))
        ],
      );
      low = λ place d above lt k e short. so_far.low place d (omega arith) lt k e short;
      pairs = so_far.pairs;
    }

    -- it is
    pub found_push : IsMarked first x.0 → IsMarked second x.0 → IsFound all (i + 1) first second (starts ++ x.0 ∷ [])
    found_push one other = record {
      exact = λ pc. (
        λ h. elim (Contains-push_cases starts x.0 pc h) [
          | inl old ↦ let both = (so_far.exact pc).0 old in record { at = rw taken (start_old (take i all) x pc both.at); one = both.one; other = both.other }
          | inr new ↦ subst (λ n. IsBothMarked (view_instructions (take (i + 1) all)) first second n) new record { at = rw taken (start_new (take i all) x); one = one; other = other }
        ],
        λ both. elim (start_push (take i all) x pc (rw taken at both.at)) [
          | inl old ↦ Contains-append_left starts (x.0 ∷ []) pc ((so_far.exact pc).1 record { at = old; one = both.one; other = both.other })
          | inr new ↦ subst (λ n. Contains (starts ++ x.0 ∷ []) n) (sym new) (Contains-push starts x.0)
        ],
      );
      low = λ place d above lt k e short.
          let here : (get_or all i d).0 < (get_or all place d).0 = pcs_above all 0 i place d rising (omega arith) lt in
          elim (cases_lt k (length starts)) [
            | inl old ↦ rw (get_or_append_left starts (x.0 ∷ []) e k old) (so_far.low place d (omega arith) lt k e old)
            | inr new ↦ let at : length starts ≡ k = omega (arith, length_push starts x.0) in rw (get_or_push starts x.0 e k at) (subst (λ y. y.0 < (get_or all place d).0) (sym (get_or_read all i x within is d)) here)
          ];
      pairs = all_pairs_push (λ a b. a < b) starts x.0 so_far.pairs (λ k e short. rw is (so_far.low i x (omega arith) within k e short));
    }

-- all of them
pub found_all : (all : Listed) (i : ℕ) (first second : List Bool) (starts : List ℕ) → length all ≤ i → IsFound all i first second starts → (pc : ℕ) → Contains starts pc ↔ IsBothMarked (view_instructions all) first second pc
found_all all i first second starts past found pc = rw (take_all i all past) at (found.exact pc)
