-- Bits of rows.
use Rattle.std.proofs.Common.{◌≡◌, ◌↔◌, ◌⊎◌, ℕ, zero, suc, ◌*◌, ◌/◌, ◌%◌, ◌^◌, ◌<◌, ◌≤◌, List, [], ◌∷◌, ◌++◌, length, get_or, set, true, eqb, refl, sym, ap, subst, inl, inr, ◌∙◌, arith, w64, eq-eqb, eqb-true, max}
use Rattle.std.specs.Prelude.{bit_and, bit_or}
use Rattle.std.specs.Int.{bit_at}
use Rattle.std.specs.Int.Bits.{or_zero_r}
use Rattle.std.proofs.lemmas.Bool.{cases_eq, cases_lt}
use Rattle.std.proofs.lemmas.List.{get_or_past, get_or-set_same, get_or-set_other}
use Rattle.std.proofs.lemmas.Nat.Bits.{bit_at_or, bit_at-zero, shr_and_one, bit_at_set_same, bit_at_set_other, bit_at-lt}
use Rattle.dj_headers.specs.Rows.{IsSet, row_at}

-- the test of a bit
pub set_test : (row : List ℕ) (at : ℕ) → (eqb (bit_and (get_or row (at / 64) 0 / 2 ^ (at % 64)) 1) 1 ≡ true) ↔ IsSet row at
unfolding IsSet
set_test row at = rw shr_and_one (eqb-true _ 1, eq-eqb _ 1)

pub none_past : (row : List ℕ) (at : ℕ) → length row ≤ at / 64 → ¬ IsSet row at
unfolding IsSet
none_past row at past h =
    let e : bit_at (get_or row (at / 64) 0) (at % 64) ≡ 0 = ap (λ n. bit_at n (at % 64)) (get_or_past row (at / 64) 0 past) ∙ bit_at-zero (at % 64) in
    omega arith

pub none_empty : (at : ℕ) → ¬ IsSet [] at
none_empty at = none_past [] at (omega arith)

pub none_behind : (rows : List (List ℕ)) (i j : ℕ) → length rows ≤ i → ¬ IsSet (row_at rows i) j
none_behind rows i j past h = none_empty j (subst (λ (row : List ℕ). IsSet row j) (get_or_past rows i [] past) h)

-- equal words have equal bits
pub same_words : (old new : List ℕ) → ((k : ℕ) → get_or new k 0 ≡ get_or old k 0) → (j : ℕ) → IsSet new j ↔ IsSet old j
unfolding IsSet
same_words old new each j = (
  λ h. subst (λ n. bit_at n (j % 64) ≡ 1) (each (j / 64)) h,
  λ h. subst (λ n. bit_at n (j % 64) ≡ 1) (sym (each (j / 64))) h,
)

either_bit : (a b : ℕ) → a < 2 → b < 2 → max a b ≡ 1 → (a ≡ 1) ⊎ (b ≡ 1)
either_bit a b small smaller h = elim (cases_eq a 1) [ inl is ↦ inl is | inr other ↦ inr (omega arith) ]

-- words joined by `|` have the bits of both
pub joined_words : (old more new : List ℕ) → ((k : ℕ) → get_or new k 0 ≡ bit_or (get_or old k 0) (get_or more k 0)) → (j : ℕ) → IsSet new j ↔ (IsSet old j ⊎ IsSet more j)
unfolding IsSet
joined_words old more new each j =
    let a = get_or old (j / 64) 0 in
    let b = get_or more (j / 64) 0 in
    let is : bit_at (get_or new (j / 64) 0) (j % 64) ≡ max (bit_at a (j % 64)) (bit_at b (j % 64)) = ap (λ n. bit_at n (j % 64)) (each (j / 64)) ∙ bit_at_or a b (j % 64) in
    let small : bit_at a (j % 64) < 2 = bit_at-lt a (j % 64) in
    let smaller : bit_at b (j % 64) < 2 = bit_at-lt b (j % 64) in (
      λ h. either_bit (bit_at a (j % 64)) (bit_at b (j % 64)) small smaller (sym is ∙ h),
      λ either. elim either [ inl h ↦ omega arith | inr h ↦ omega arith ],
    )

-- a word with one more bit, written back
pub bit_added : (old : List ℕ) (at : ℕ) → at / 64 < length old → (j : ℕ) → IsSet (set old (at / 64) (bit_or (get_or old (at / 64) 0) (1 * 2 ^ (at % 64) % 2 ^ 64))) j ↔ (IsSet old j ⊎ (j ≡ at))
unfolding IsSet
bit_added old at within j =
    let word : ℕ = bit_or (get_or old (at / 64) 0) (1 * 2 ^ (at % 64) % 2 ^ 64) in
    let new : List ℕ = set old (at / 64) word in
    let small : at % 64 < 64 = omega arith in
    elim (cases_eq (j / 64) (at / 64)) [
      | inl here ↦
          let is : get_or new (j / 64) 0 ≡ word = rw here (get_or-set_same old (at / 64) word 0 within) in
          elim (cases_eq (j % 64) (at % 64)) [
            | inl same ↦ (
              λ h. inr (omega arith),
              λ either. ap (λ n. bit_at n (j % 64)) is ∙ rw same (bit_at_set_same w64 (get_or old (at / 64) 0) (at % 64) small),
            )
            | inr other ↦
                let kept : bit_at (get_or new (j / 64) 0) (j % 64) ≡ bit_at (get_or old (j / 64) 0) (j % 64) =
                ap (λ n. bit_at n (j % 64)) is ∙ bit_at_set_other w64 (get_or old (at / 64) 0) (at % 64) small (j % 64) other ∙ ap (λ k. bit_at (get_or old k 0) (j % 64)) (sym here) in (
                  λ h. inl (sym kept ∙ h),
                  λ either. elim either [ inl h ↦ kept ∙ h | inr same ↦ absurd (other (ap (λ n. n % 64) same)) ],
                )
          ]
      | inr apart ↦
          let kept : bit_at (get_or new (j / 64) 0) (j % 64) ≡ bit_at (get_or old (j / 64) 0) (j % 64) =
          ap (λ n. bit_at n (j % 64)) (get_or-set_other old (at / 64) (j / 64) word 0 apart) in (
            λ h. inl (sym kept ∙ h),
            λ either. elim either [ inl h ↦ kept ∙ h | inr same ↦ absurd (apart (ap (λ n. n / 64) same)) ],
          )
    ]

-- one more word without a set bit
pub word_pushed : (xs : List ℕ) (k : ℕ) → get_or (xs ++ 0 ∷ []) k 0 ≡ get_or xs k 0
word_pushed [] zero = refl
word_pushed [] (suc k) = refl
word_pushed (x ∷ xs) zero = refl
word_pushed (x ∷ xs) (suc k) = word_pushed xs k

-- one more empty row
pub row_pushed : (rows : List (List ℕ)) (i : ℕ) → row_at (rows ++ [] ∷ []) i ≡ row_at rows i
row_pushed [] zero = refl
row_pushed [] (suc i) = refl
row_pushed (row ∷ rows) zero = refl
row_pushed (row ∷ rows) (suc i) = row_pushed rows i

-- two steps that each add bits
pub both_added : (first next last : List ℕ) (A B : ℕ → Type 0) → ((j : ℕ) → IsSet next j ↔ (IsSet first j ⊎ A j)) → ((j : ℕ) → IsSet last j ↔ (IsSet next j ⊎ B j))
    → (j : ℕ) → IsSet last j ↔ ((IsSet first j ⊎ A j) ⊎ B j)
both_added first next last A B one two j = (
  λ h. elim ((two j).0 h) [ inl before ↦ inl ((one j).0 before) | inr b ↦ inr b ],
  λ h. (two j).1 (elim h [ inl before ↦ inl ((one j).1 before) | inr b ↦ inr b ]),
)

-- words that keep their bits, and then gain some
pub kept_added : (first next last : List ℕ) (B : ℕ → Type 0) → ((j : ℕ) → IsSet next j ↔ IsSet first j) → ((j : ℕ) → IsSet last j ↔ (IsSet next j ⊎ B j))
    → (j : ℕ) → IsSet last j ↔ (IsSet first j ⊎ B j)
kept_added first next last B one two j = (
  λ h. elim ((two j).0 h) [ inl before ↦ inl ((one j).0 before) | inr b ↦ inr b ],
  λ h. (two j).1 (elim h [ inl before ↦ inl ((one j).1 before) | inr b ↦ inr b ]),
)

-- the first words of a longer row, joined with those of a shorter one
pub merged : (old more new : List ℕ) → ((k : ℕ) → k < length more → get_or new k 0 ≡ bit_or (get_or old k 0) (get_or more k 0)) → ((k : ℕ) → length more ≤ k → get_or new k 0 ≡ get_or old k 0)
    → (j : ℕ) → IsSet new j ↔ (IsSet old j ⊎ IsSet more j)
merged old more new done left =
    joined_words old more new (λ k. elim (cases_lt k (length more)) [
      | inl below ↦ done k below
      | inr past ↦ left k past ∙ sym (ap (bit_or (get_or old k 0)) (get_or_past more k 0 past) ∙ or_zero_r (get_or old k 0))
    ])
