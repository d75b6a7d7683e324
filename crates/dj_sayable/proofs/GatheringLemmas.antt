-- How gathered names grow.
use Rattle.std.proofs.Common.{◌≡◌, ◌≢◌, ◌⊎◌, ◌↔◌, ℕ, ◌+◌, ◌<◌, Bool, true, false, cond, not, IsTrue, List, [], ◌∷◌, ◌++◌, Any, Contains, length, take, get_or, refl, sym, ap, subst, inl, inr, ◌∙◌, arith}
use Rattle.std.proofs.lemmas.List.{take_more, take-append-le, length_push}
use Rattle.std.proofs.lemmas.List.Elements.{Contains-append_left, Contains-append_right, Contains-append_cases, Contains-push, Contains-push_cases, Contains-get_or}
use Rattle.std.proofs.lemmas.List.Quantifiers.{Any-push, all_pairs_push}
use Rattle.dj_names.specs.Headers.{Name}
use Rattle.dj_headers.proofs.PathLemmas.{Any-before, Any-push_cases}
use Rattle.std.specs.Ordering.{nat_cmp}
use Rattle.std.specs.Cmp.Lexicographic.{slice_cmp}
use Rattle.std.specs.BTreeMap.{is_at}
use Rattle.std.specs.BTreeSet.{BTreeSet, contains, Updates}
use Rattle.std.proofs.lemmas.Bool.{cases_Bool, both_ways}
use Rattle.std.proofs.lemmas.Map.Lookups.{exact_bytes}
use Rattle.std.proofs.lemmas.Map.Views.{tells_apart}
use Rattle.dj_sayable.specs.Gathering.{HasJust, Gains, Continues}

-- ---- what is gained

pub gains_none : (names : List Name) (P : Name → Type 0) → ((name : Name) → ¬ P name) → Gains names names P
gains_none names P none = record { each = λ name. (λ has. inl has, λ either. elim either [ inl had ↦ had | inr holds ↦ absurd (none name holds) ]) }

pub gains_like : (old new : List Name) (P Q : Name → Type 0) → ((name : Name) → P name ↔ Q name) → Gains old new P → Gains old new Q
gains_like old new P Q like gains = record {
  each = λ name. (
    λ has. elim ((gains.each name).0 has) [ inl had ↦ inl had | inr holds ↦ inr ((like name).0 holds) ],
    λ either. (gains.each name).1 (elim either [ inl had ↦ inl had | inr holds ↦ inr ((like name).1 holds) ]),
  );
}

pub gains_then : (old between new : List Name) (P Q : Name → Type 0) → Gains old between P → Gains between new Q → Gains old new (λ name. P name ⊎ Q name)
gains_then old between new P Q first second = record {
  each = λ name. (
    λ has. elim ((second.each name).0 has) [
      | inl earlier ↦ elim ((first.each name).0 earlier) [ inl had ↦ inl had | inr p ↦ inr (inl p) ]
      | inr q ↦ inr (inr q)
    ],
    λ either. (second.each name).1 (elim either [
      | inl had ↦ inl ((first.each name).1 (inl had))
      | inr holds ↦ elim holds [ inl p ↦ inl ((first.each name).1 (inr p)) | inr q ↦ inr q ]
    ]),
  );
}

-- the names behind others are gained
pub gains_behind : (old more : List Name) → Gains old (old ++ more) (Contains more)
gains_behind old more = record {
  each = λ name. (
    Contains-append_cases old more name,
    λ either. elim either [ inl had ↦ Contains-append_left old more name had | inr new ↦ Contains-append_right old more name new ],
  );
}

-- a name that is among the names already is gained
pub gains_known : (names : List Name) (name : Name) → Contains names name → Gains names names (λ other. name ≡ other)
gains_known names name known = record {
  each = λ other. (λ has. inl has, λ either. elim either [ inl had ↦ had | inr is ↦ subst (Contains names) is known ]);
}

-- one more name is gained
pub gains_one : (names : List Name) (name : Name) → Gains names (names ++ name ∷ []) (λ other. name ≡ other)
gains_one names name = record {
  each = λ other. (
    Contains-push_cases names name other,
    λ either. elim either [ inl had ↦ Contains-append_left names (name ∷ []) other had | inr is ↦ subst (Contains (names ++ name ∷ [])) is (Contains-push names name) ],
  );
}

-- ---- a set beside names

module _ (old new : BTreeSet Name) (names : List Name) (key : Name) (just : HasJust old names)
    (updates : Updates (slice_cmp nat_cmp) old new key true) where
  new_has : (name : Name) → Contains names name ⊎ (key ≡ name) → IsTrue (contains (slice_cmp nat_cmp) new name)
  new_has name either = elim either [
    | inl had ↦ updates.0 name ∙ kept (is_at (slice_cmp nat_cmp key) name) ((just.each name).1 had)
    | inr same ↦ subst (λ (n : Name). contains (slice_cmp nat_cmp) new n ≡ true) same updates.1
  ]
    where
      kept : (here : Bool) → contains (slice_cmp nat_cmp) old name ≡ true → cond here true (contains (slice_cmp nat_cmp) old name) ≡ true
      kept true had = refl
      kept false had = had

  old_had : (name : Name) → IsTrue (contains (slice_cmp nat_cmp) new name) → Contains names name ⊎ (key ≡ name)
  old_had name has = elim (cases_Bool (is_at (slice_cmp nat_cmp key) name)) [
    | inl here ↦ inr (tells_apart exact_bytes key name here)
    | inr elsewhere ↦ inl ((just.each name).0 (sym (ap (λ here. cond here true (contains (slice_cmp nat_cmp) old name)) elsewhere) ∙ sym (updates.0 name) ∙ has))
  ]

  -- the set that had the name
  pub just_known : Contains names key → HasJust new names
  just_known had = record {
    each = λ name. (
      λ has. elim (old_had name has) [ inl there ↦ there | inr same ↦ subst (Contains names) same had ],
      λ there. new_has name (inl there),
    );
  }

  -- the set that has one more
  pub just_more : (name : Name) → name ≡ key → HasJust new (names ++ name ∷ [])
  just_more name is = record {
    each = λ other. (
      λ has. elim (old_had other has) [
        | inl there ↦ Contains-append_left names (name ∷ []) other there
        | inr same ↦ subst (Contains (names ++ name ∷ [])) (is ∙ same) (Contains-push names name)
      ],
      λ there. new_has other (elim (Contains-push_cases names name other there) [ inl before ↦ inl before | inr same ↦ inr (sym is ∙ same) ]),
    );
  }

-- a name that was put into the set first is none of the names
pub not_yet : (known : BTreeSet Name) (names : List Name) (key name : Name) (first : Bool) → HasJust known names → name ≡ key → first ≡ not (contains (slice_cmp nat_cmp) known key) → IsTrue first → ¬ Contains names name
not_yet known names key name first just is added holds there =
    both_ways (not (contains (slice_cmp nat_cmp) known key)) (ap not ((just.each key).1 (subst (Contains names) is there))) (sym added ∙ holds)

-- ---- one more item of a list

module _ {A : Type 0} (xs : List A) (i : ℕ) (x : A) (within : i < length xs) (is : x ≡ get_or xs i x) where
  longer : take (i + 1) xs ≡ take i xs ++ x ∷ []
  longer = take_more xs i x within ∙ ap (λ (y : A). take i xs ++ y ∷ []) (sym is)

  pub any_more : (P : A → Type 0) → (Any P (take i xs) ⊎ P x) ↔ Any P (take (i + 1) xs)
  any_more P = (
    λ either. subst (Any P) (sym longer) (elim either [ inl before ↦ Any-before P (take i xs) x before | inr here ↦ Any-push P (take i xs) x here ]),
    λ some. Any-push_cases P (take i xs) x (subst (Any P) longer some),
  )

  pub contains_more : (name : A) → (Contains (take i xs) name ⊎ (x ≡ name)) ↔ Contains (take (i + 1) xs) name
  contains_more name = (
    λ either. subst (λ (ys : List A). Contains ys name) (sym longer) (elim either [
      | inl before ↦ Contains-append_left (take i xs) (x ∷ []) name before
      | inr here ↦ subst (Contains (take i xs ++ x ∷ [])) here (Contains-push (take i xs) x)
    ]),
    λ some. Contains-push_cases (take i xs) x name (subst (λ (ys : List A). Contains ys name) longer some),
  )

-- ---- names behind names

pub continues_same : (names : List Name) → Continues names names
continues_same names = record { begins = λ n within. refl; longer = omega arith; distinct = λ distinct. distinct }

pub continues_then : (old between new : List Name) → Continues old between → Continues between new → Continues old new
continues_then old between new first second =
    let longer = first.longer in
    record {
      begins = λ n within. second.begins n (omega (arith, first.longer)) ∙ first.begins n within;
      longer = omega (arith, first.longer, second.longer);
      distinct = λ distinct. second.distinct (first.distinct distinct);
    }

pub continues_one : (names : List Name) (name : Name) → ¬ Contains names name → Continues names (names ++ name ∷ [])
continues_one names name new = record {
  begins = λ n within. take-append-le n names (name ∷ []) within;
  longer = omega (arith, length_push names name);
  distinct = λ distinct. all_pairs_push (λ first second. first ≢ second) names name distinct (λ k d within is. new (subst (Contains names) is (Contains-get_or names k d within)));
}
