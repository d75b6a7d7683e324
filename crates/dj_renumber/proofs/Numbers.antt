-- Numbers that are listed in a set: what an insertion makes of them, and where one stands.
use Rattle.std.proofs.Common.{arith, ℕ, suc, ◌+◌, Bool, true, false, List, [], ◌∷◌, ◌++◌, length, Some, None, ◌≡◌, refl, sym, ap, ◌∙◌, ◌||◌, ◌==◌, nat_eq}
use Rattle.std.specs.Prelude.{if◌then◌else◌}
use Rattle.std.specs.List.{list_any, position, position_from}
use Rattle.std.proofs.lemmas.Iterator.Adapters.{position_from-zero}
use Rattle.indexmap.specs.IndexSet.{insert_key}
use Rattle.dj_numbered.specs.Numbering.{is_listed, listed, place_of}

same_listed : (number : ℕ) (list : List ℕ) → list_any (nat_eq number) list ≡ is_listed number list
same_listed number [] = refl
same_listed number (first ∷ rest) = ap (λ later. (number == first) || later) (same_listed number rest)

-- an insertion lists a number
pub inserted : (list : List ℕ) (number : ℕ) → insert_key nat_eq list number ≡ listed number list
inserted list number = ap (λ (there : Bool). if there then list else list ++ number ∷ []) (same_listed number list)

no_some : (place : ℕ) → None ≡ Some place → ⊥
no_some place e = cc

same_some : (first second : ℕ) → Some first ≡ Some second → first ≡ second
same_some first second e = cc

found_from : (number : ℕ) (list : List ℕ) (start place : ℕ) → position_from (nat_eq number) start list ≡ Some place → place ≡ start + place_of list number
found_from number [] start place e = absurd (no_some place e)
found_from number (first ∷ rest) start place e = go (number == first) refl e (λ later. found_from number rest (start + 1) place later)
  where
    go : (same : Bool) → (number == first) ≡ same → (if same then Some start else position_from (nat_eq number) (start + 1) rest) ≡ Some place
        → (position_from (nat_eq number) (start + 1) rest ≡ Some place → place ≡ (start + 1) + place_of rest number) → place ≡ start + (if same then 0 else suc (place_of rest number))
    go true s e on = sym (same_some start place e) ∙ (omega arith)
    go false s e on = on e ∙ (omega arith)

none_from : (number : ℕ) (list : List ℕ) (start : ℕ) → position_from (nat_eq number) start list ≡ None → place_of list number ≡ number + length list
none_from number [] start e = omega arith
none_from number (first ∷ rest) start e = go (number == first) refl e (λ later. none_from number rest (start + 1) later)
  where
    go : (same : Bool) → (number == first) ≡ same → (if same then Some start else position_from (nat_eq number) (start + 1) rest) ≡ None
        → (position_from (nat_eq number) (start + 1) rest ≡ None → place_of rest number ≡ number + length rest) → (if same then 0 else suc (place_of rest number)) ≡ number + length (first ∷ rest)
    go true s e on = absurd (no_some start (sym e))
    go false s e on = ap suc (on e) ∙ (omega arith)

-- the place of a number that stands there
pub place_found : (list : List ℕ) (number place : ℕ) → Some place ≡ position (nat_eq number) list → place ≡ place_of list number
place_found list number place e = found_from number list 0 place (sym (position_from-zero (nat_eq number) list) ∙ sym e) ∙ (omega arith)

-- and of one that doesn't
pub place_not_found : (list : List ℕ) (number : ℕ) → None ≡ position (nat_eq number) list → place_of list number ≡ number + length list
place_not_found list number e = none_from number list 0 (sym (position_from-zero (nat_eq number) list) ∙ sym e)
