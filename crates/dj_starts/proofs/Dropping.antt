-- Rising numbers, and the last taken away.
use Rattle.std.proofs.Common.{◌≡◌, ℕ, ◌-◌, ◌<◌, ◌≤◌, ◌⊎◌, ◌↔◌, Bool, false, List, [], ◌∷◌, ◌++◌, length, get_or, ◌∙◌, subst, inl, inr, arith}
use Rattle.std.specs.Prelude.{IsTrue}
use Rattle.std.specs.List.{Contains, AllPairs}
use Rattle.std.proofs.lemmas.List.{length_push, get_or_append_left, get_or_default, get_or_push}
use Rattle.std.proofs.lemmas.List.Elements.{Contains-append_left, Contains-push, Contains-push_cases}
use Rattle.std.proofs.lemmas.Bool.{cases_lt, false≢true}
use Rattle.dj_starts.specs.Walking.{IsCut, IsLastFrom}

-- what was taken away so far
pub record IsDropped (low : ℕ) (old now : List ℕ) (found : Bool) : Type 0 where
  pub rising : AllPairs (λ x y. x < y) now
  pub kept : (number : ℕ) → Contains now number → Contains old number
  pub cut : (number : ℕ) → Contains old number → Contains now number ⊎ (low ≤ number)
  pub was : IsTrue found → Contains old low
  pub sought : Contains old low → Contains now low ⊎ IsTrue found

pub dropped_none : (low : ℕ) (old : List ℕ) → AllPairs (λ x y. x < y) old → IsDropped low old old false
dropped_none low old rising = record { rising = rising; kept = λ number h. h; cut = λ number h. inl h; was = λ yes. absurd (false≢true yes); sought = λ h. inl h }

rising_front : (now : List ℕ) (last : ℕ) → AllPairs (λ x y. x < y) (now ++ last ∷ []) → AllPairs (λ x y. x < y) now
rising_front now last rising = λ i j d less within.
    let longer = length_push now last in
    let h = rising i j d less (omega (arith, longer)) in
    rw (← get_or_append_left now (last ∷ []) d i (omega arith), ← get_or_append_left now (last ∷ []) d j (omega arith)) h

-- the last is taken away
pub dropped_more : (low : ℕ) (old now : List ℕ) (last : ℕ) (found : Bool) → low ≤ last → IsDropped low old (now ++ last ∷ []) found → (more : Bool) → (IsTrue more → IsTrue found ⊎ (last ≡ low)) → (IsTrue found → IsTrue more) → (last ≡ low → IsTrue more) → IsDropped low old now more
dropped_more low old now last found above so_far more only kept new = record {
  rising = rising_front now last so_far.rising;
  kept = λ number h. so_far.kept number (Contains-append_left now (last ∷ []) number h);
  cut = λ number h. elim (so_far.cut number h) [
    | inl there ↦ elim (Contains-push_cases now last number there) [ inl left ↦ inl left | inr same ↦ inr (subst (λ n. low ≤ n) same above) ]
    | inr high ↦ inr high
  ];
  was = λ yes. elim (only yes) [ inl before ↦ so_far.was before | inr same ↦ subst (λ n. Contains old n) same (so_far.kept last (Contains-push now last)) ];
  sought = λ h. elim (so_far.sought h) [
    | inl there ↦ elim (Contains-push_cases now last low there) [ inl left ↦ inl left | inr same ↦ inr (new same) ]
    | inr before ↦ inr (kept before)
  ];
}

-- the last is one from `low` on
pub last_above : (now : List ℕ) (last low : ℕ) → IsLastFrom (now ++ last ∷ []) low → low ≤ last
last_above now last low is =
    let place : length now ≡ length (now ++ last ∷ []) - 1 = omega (arith, length_push now last) in
    rw (get_or_push now last 0 (length (now ++ last ∷ []) - 1) place) at is.above

-- what is left is below
below_last : (now : List ℕ) (low number : ℕ) → AllPairs (λ x y. x < y) now → (IsLastFrom now low → ⊥) → Contains now number → number < low
below_last now low number rising none h =
    let value : get_or now h.0 0 ≡ number = get_or_default now h.0 0 number h.1 ∙ h.2 in
    elim (cases_lt number low) [
      | inl below ↦ below
      | inr above ↦ elim (cases_lt h.0 (length now - 1)) [
        | inl before ↦ let less : get_or now h.0 0 < get_or now (length now - 1) 0 = rising h.0 (length now - 1) 0 before (omega (arith, h.1)) in absurd (none record { some = omega (arith, h.1); above = omega (arith, less, value) })
        | inr last ↦ let same : h.0 ≡ length now - 1 = omega (arith, h.1) in absurd (none record { some = omega (arith, h.1); above = subst (λ n. low ≤ get_or now n 0) same (omega (arith, value)) })
      ]
    ]

pub dropped_all : (low : ℕ) (old now : List ℕ) (found : Bool) → IsDropped low old now found → (IsLastFrom now low → ⊥) → record { rising : AllPairs (λ x y. x < y) now; cut : IsCut old now low; found : IsTrue found ↔ Contains old low }
dropped_all low old now found dropped none = record {
  rising = dropped.rising;
  cut = record {
    left = λ number. (
      λ h. (dropped.kept number h, below_last now low number dropped.rising none h),
      λ h. elim (dropped.cut number h.0) [ inl there ↦ there | inr above ↦ absurd (omega (arith, h.1)) ],
    );
  };
  found = (dropped.was, λ h. elim (dropped.sought h) [ inl there ↦ absurd (omega (arith, below_last now low low dropped.rising none there)) | inr before ↦ before ]);
}
