-- Marks of places, one more of which is marked.
use Rattle.std.proofs.Common.{◌≡◌, ◌<◌, ◌≤◌, ◌+◌, ℕ, zero, suc, Bool, true, false, ◌||◌, ◌==◌, List, [], ◌∷◌, Option, Some, None, inl, inr, refl, sym, ap, ◌∙◌, arith, ne_eqb}
use Rattle.std.proofs.lemmas.Bool.Decides.{eqb_tells}
use Rattle.std.specs.Prelude.{replicate, slice_get, slice_set}
use Rattle.dj_static.specs.Marking.{marks_from}

-- no mark where no place passes
pub none_marked : (test : ℕ → Bool) (at count : ℕ) → ((place : ℕ) → test place ≡ false) → marks_from test at count ≡ replicate count false
none_marked test at zero none = refl
none_marked test at (suc count) none = ap (λ mark. mark ∷ marks_from test (suc at) count) (none at) ∙ ap (λ rest. false ∷ rest) (none_marked test (suc at) count none)

-- the mark of a place, if that is there
mark_at : (test : ℕ → Bool) (at count place : ℕ) → place < count → Some (test (at + place)) ≡ slice_get (marks_from test at count) place
mark_at test at zero place within = absurd (omega (arith, within))
mark_at test at (suc count) zero within = ap (λ n. Some (test n)) (let e : at + 0 ≡ at = omega arith in e)
mark_at test at (suc count) (suc place) within = ap (λ n. Some (test n)) (let e : at + suc place ≡ suc at + place = omega arith in e) ∙ mark_at test (suc at) count place (omega (arith, within))

pub mark_of : (test : ℕ → Bool) (count place : ℕ) → place < count → Some (test place) ≡ slice_get (marks_from test 0 count) place
mark_of test count place within = ap (λ n. Some (test n)) (let e : place ≡ 0 + place = omega arith in e) ∙ mark_at test 0 count place within

pub no_mark : (test : ℕ → Bool) (at count place : ℕ) → count ≤ place → None ≡ slice_get (marks_from test at count) place
no_mark test at zero place past = refl
no_mark test at (suc count) zero past = absurd (omega (arith, past))
no_mark test at (suc count) (suc place) past = no_mark test (suc at) count place (omega (arith, past))

same_place : (n : ℕ) → (n == n) ≡ true
same_place n = elim (eqb_tells n n) [ inl same ↦ same.0 | inr differ ↦ absurd (differ.1 refl) ]

module _ (test new : ℕ → Bool) (place : ℕ) (more : (other : ℕ) → new other ≡ (place == other || test other)) where
  other_place : (other : ℕ) → ¬ (place ≡ other) → new other ≡ test other
  other_place other differ = more other ∙ ap (λ b. b || test other) (ne_eqb place other differ)

  -- places behind it have their marks
  behind : (at count : ℕ) → place < at → marks_from new at count ≡ marks_from test at count
  behind at zero past = refl
  behind at (suc count) past = ap (λ mark. mark ∷ marks_from new (suc at) count) (other_place at (λ same. omega (arith, same, past))) ∙ ap (λ rest. test at ∷ rest) (behind (suc at) count (omega (arith, past)))

  marked_from : (at count far : ℕ) → place ≡ at + far → marks_from new at count ≡ slice_set (marks_from test at count) far true
  marked_from at zero far is = refl
  marked_from at (suc count) zero is =
      ap (λ mark. mark ∷ marks_from new (suc at) count) (more at ∙ ap (λ n. (n == at) || test at) (let e : place ≡ at = omega (arith, is) in e) ∙ ap (λ b. b || test at) (same_place at))
      ∙ ap (λ rest. true ∷ rest) (behind (suc at) count (omega (arith, is)))
  marked_from at (suc count) (suc far) is =
      ap (λ mark. mark ∷ marks_from new (suc at) count) (other_place at (λ same. omega (arith, same, is)))
      ∙ ap (λ rest. test at ∷ rest) (marked_from (suc at) count far (let e : place ≡ suc at + far = omega (arith, is) in e))

  pub marked : (count : ℕ) → marks_from new 0 count ≡ slice_set (marks_from test 0 count) place true
  marked count = marked_from 0 count place (let e : place ≡ 0 + place = omega arith in e)
