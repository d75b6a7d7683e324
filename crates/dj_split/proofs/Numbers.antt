-- Blocks by their numbers, where their offsets rise.
use Rattle.std.proofs.Common.{◌≡◌, ◌≢◌, ℕ, zero, suc, ◌<◌, ◌≤◌, Bool, List, [], ◌∷◌, length, Option, Some, None, Ok, Err, inl, inr, refl, ap, ◌∙◌, arith, ne_eqb}
use Rattle.std.specs.Prelude.{slice_index_or, if◌then◌else◌}
use Rattle.std.specs.List.{AllPairs}
use Rattle.std.specs.List.Sorted.{IsBinarySearchResult}
use Rattle.std.specs.Ordering.{nat_cmp}
use Rattle.std.proofs.lemmas.List.Sorted.{searched}
use Rattle.std.proofs.lemmas.Bool.{cases_lt, eq-eqb}
use Rattle.dj_rebuilding.specs.Pending.{and_then}
use Rattle.dj_edges.specs.Edges.{number_of}

abbrev Rise : List ℕ → Type 0
Rise starts = AllPairs (λ x y. x < y) starts

rise-behind : (start : ℕ) (rest : List ℕ) → Rise (start ∷ rest) → Rise rest
rise-behind start rest rise i j d less within = rise (suc i) (suc j) d (omega (arith, less)) (omega (arith, within))

-- no start is below its place
pub above : (starts : List ℕ) (place : ℕ) → Rise starts → place < length starts → place ≤ slice_index_or starts place 0
above starts zero rise within = omega arith
above starts (suc place) rise within =
    let lower = above starts place rise (omega (arith, within)) in
    let less = rise place (suc place) 0 (omega arith) within in
    omega (arith, lower, less)

pub number-is : (starts : List ℕ) (place pc : ℕ) → Rise starts → place < length starts → slice_index_or starts place 0 ≡ pc → number_of starts pc ≡ Some place
number-is [] place pc rise within e = absurd (omega (arith, within))
number-is (start ∷ rest) zero pc rise within e = ap (λ (test : Bool). if test then Some 0 else and_then (number_of rest pc) (λ number. Some (suc number))) (eq-eqb start pc e)
number-is (start ∷ rest) (suc place) pc rise within e =
    let less = rise 0 (suc place) 0 (omega arith) within in
    ap (λ (test : Bool). if test then Some 0 else and_then (number_of rest pc) (λ number. Some (suc number))) (ne_eqb start pc (λ same. omega (arith, less, same, e)))
    ∙ ap (λ (found : Option ℕ). and_then found (λ number. Some (suc number))) (number-is rest place pc (rise-behind start rest rise) (omega (arith, within)) e)

pub number-none : (starts : List ℕ) (pc : ℕ) → ((place : ℕ) → place < length starts → slice_index_or starts place 0 ≢ pc) → number_of starts pc ≡ None
number-none [] pc none = refl
number-none (start ∷ rest) pc none =
    ap (λ (test : Bool). if test then Some 0 else and_then (number_of rest pc) (λ number. Some (suc number))) (ne_eqb start pc (none 0 (omega arith)))
    ∙ ap (λ (found : Option ℕ). and_then found (λ number. Some (suc number))) (number-none rest pc (λ place within. none (suc place) (omega (arith, within))))

-- ---- a search by halves

rises : (starts : List ℕ) → Rise starts → (one other : ℕ) → one ≤ other → other < length starts → slice_index_or starts one 0 ≤ slice_index_or starts other 0
rises starts rise one other up within = elim (cases_lt one other) [
  | inl less ↦ (let below = rise one other 0 less within in omega (arith, below))
  | inr over ↦ (let same : one ≡ other = omega (arith, up, over) in let equal = ap (λ (n : ℕ). slice_index_or starts n 0) same in omega (arith, equal))
]

-- the number that a search finds
pub record IsNumber (starts : List ℕ) (place pc : ℕ) : Type 0 where
  pub low : place ≤ pc
  pub is : number_of starts pc ≡ Some place

pub number-found : (starts : List ℕ) (place pc : ℕ) → Rise starts → IsBinarySearchResult (λ start. nat_cmp start pc) starts (Ok place) → IsNumber starts place pc
number-found starts place pc rise found =
    let at = searched starts pc (Ok place) found (rises starts rise) in
    let low = above starts place rise at.0 in
    let same = at.1 in
    record { low = omega (arith, low, same); is = number-is starts place pc rise at.0 at.1 }

pub number-none-found : (starts : List ℕ) (place pc : ℕ) → Rise starts → IsBinarySearchResult (λ start. nat_cmp start pc) starts (Err place) → number_of starts pc ≡ None
number-none-found starts place pc rise found =
    let at = searched starts pc (Err place) found (rises starts rise) in
    number-none starts pc (λ other within same. elim (cases_lt other place) [
      | inl less ↦ (let below = at.1 other less in omega (arith, below, same))
      | inr over ↦ (let beyond = at.2 other over within in omega (arith, beyond, same))
    ])
