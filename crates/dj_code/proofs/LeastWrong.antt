-- The least start among items that aren't right, one item after the other.
use Rattle.std.proofs.Common.{Bool, true, false, ltb, ◌≡◌, ℕ, zero, suc, ◌+◌, ◌<◌, ◌≤◌, min, List, [], ◌∷◌, length, get_or, Option, Some, None, refl, sym, ap, ◌∙◌, arith, below_more}
use Rattle.std.specs.Prelude.{MatchOption, IsTrue, ◌↔◌, if◌then◌else◌}
use Rattle.std.specs.List.{All, Any}
use Rattle.std.proofs.lemmas.Bool.{ltb-true, false≢true}
use Rattle.std.proofs.lemmas.Bool.Decides.{nat_tests}
use Rattle.dj_code.specs.Targets.{IsLeast}
use Rattle.dj_code.specs.Checks.{lesser}

-- one of the first items isn't right and starts here, and none of them that isn't right starts before
pub record IsLeastAmong {X : Type 0} (start : X → ℕ) (Right : X → Type 0) (xs : List X) (i pc : ℕ) : Type 0 where
  pub place : ℕ
  pub inside : place < i
  pub here : (d : X) → start (get_or xs place d) ≡ pc
  pub wrong : (d : X) → Right (get_or xs place d) → ⊥
  pub least : (k : ℕ) (d : X) → k < i → (Right (get_or xs k d) → ⊥) → pc ≤ start (get_or xs k d)

-- each of the first items is right
abbrev pub AreRight : {X : Type 0} → (X → Type 0) → List X → ℕ → Type 0
AreRight {X = X} Right xs i = (k : ℕ) (d : X) → k < i → Right (get_or xs k d)

-- the least start of the first items that aren't right
abbrev pub IsLeastSoFar : {X : Type 0} → (X → ℕ) → (X → Type 0) → List X → ℕ → Option ℕ → Type 0
IsLeastSoFar start Right xs i None = AreRight Right xs i
IsLeastSoFar start Right xs i (Some pc) = IsLeastAmong start Right xs i pc

not_less : (a b : ℕ) → ltb a b ≡ false → b ≤ a
not_less a b e = grind (arith, nat_tests)

module _ {X : Type 0} (start : X → ℕ) (Right : X → Type 0) (xs : List X) (i : ℕ) (x : X) (is : (d : X) → get_or xs i d ≡ x) where
  each_more : (P : X → Type 0) → ((k : ℕ) (d : X) → k < i → P (get_or xs k d)) → P x → (k : ℕ) (d : X) → k < i + 1 → P (get_or xs k d)
  each_more P before here k d lt = below_more (λ (j : ℕ). P (get_or xs j d)) i (λ j less. before j d less) (rw (is d) here) k lt

  -- the next item is right
  pub right_more : (least : Option ℕ) → IsLeastSoFar start Right xs i least → Right x → IsLeastSoFar start Right xs (i + 1) least
  right_more None so_far right = each_more Right so_far right
  right_more (Some pc) so_far right = record {
    place = so_far.place;
    inside = omega (arith, so_far.inside);
    here = so_far.here;
    wrong = so_far.wrong;
    least = each_more (λ (y : X). (Right y → ⊥) → pc ≤ start y) so_far.least (λ wrong. absurd (wrong right));
  }

  -- the next item isn't right
  pub wrong_more : (least : Option ℕ) → IsLeastSoFar start Right xs i least → (Right x → ⊥) → IsLeastSoFar start Right xs (i + 1) (lesser least (start x))
  wrong_more None so_far wrong = record {
    place = i;
    inside = omega arith;
    here = λ d. ap start (is d);
    wrong = λ d. rw (is d) wrong;
    least = each_more (λ (y : X). (Right y → ⊥) → start x ≤ start y) (λ k d lt other. absurd (other (so_far k d lt))) (λ _. omega arith);
  }
  wrong_more (Some pc) so_far wrong = pick (ltb (start x) pc) refl
    where
      old : pc ≤ start x → IsLeastAmong start Right xs (i + 1) (min pc (start x))
      old le = let e : min pc (start x) ≡ pc = omega arith in record {
        place = so_far.place;
        inside = omega (arith, so_far.inside);
        here = λ d. rw e (so_far.here d);
        wrong = so_far.wrong;
        least = each_more (λ (y : X). (Right y → ⊥) → min pc (start x) ≤ start y) (λ k d less other. rw e (so_far.least k d less other)) (λ _. omega arith);
      }

      new : start x < pc → IsLeastAmong start Right xs (i + 1) (min pc (start x))
      new lt = let e : min pc (start x) ≡ start x = omega arith in record {
        place = i;
        inside = omega arith;
        here = λ d. rw e (ap start (is d));
        wrong = λ d. rw (is d) wrong;
        least = each_more (λ (y : X). (Right y → ⊥) → min pc (start x) ≤ start y) (λ k d less other. let before = so_far.least k d less other in omega arith) (λ _. omega arith);
      }

      pick : (b : Bool) → ltb (start x) pc ≡ b → IsLeastAmong start Right xs (i + 1) (min pc (start x))
      pick true is_less = new (ltb-true (start x) pc is_less)
      pick false isnt_less = old (not_less (start x) pc isnt_less)

  -- either way
  pub step : (right : Bool) (least : Option ℕ) → IsTrue right ↔ Right x → IsLeastSoFar start Right xs i least → IsLeastSoFar start Right xs (i + 1) (if right then least else lesser least (start x))
  step true least tells so_far = right_more least so_far (tells.0 refl)
  step false least tells so_far = wrong_more least so_far (λ right. false≢true (tells.1 right))

-- an item of a list
found_item : {X : Type 0} (xs : List X) (k : ℕ) → k < length xs → (x : X) × ((d : X) → get_or xs k d ≡ x)
found_item [] k lt = absurd (omega arith)
found_item (x ∷ xs) zero lt = (x, λ d. refl)
found_item (x ∷ xs) (suc k) lt = found_item xs k (omega arith)

-- all of the items
pub least_of_all : {X : Type 0} (start : X → ℕ) (Right : X → Type 0) (xs : List X) (i : ℕ) (least : Option ℕ) → length xs ≤ i → i ≤ length xs → IsLeastSoFar start Right xs i least
    → MatchOption least (All Right xs) (IsLeast (λ pc. Any (λ x. (start x ≡ pc) × (Right x → ⊥)) xs))
least_of_all start Right xs i None all within so_far = λ k d lt. so_far k d (omega arith)
least_of_all start Right xs i (Some pc) all within so_far =
    let found = found_item xs so_far.place (omega (arith, so_far.inside)) in
    record {
      here = (so_far.place, found.0, omega (arith, so_far.inside), found.1 found.0, (sym (ap start (found.1 found.0)) ∙ so_far.here found.0, λ right. so_far.wrong found.0 (rw (found.1 found.0) right)));
      least = λ other (k, x, lt, at, both). let most = so_far.least k x (omega arith) (λ right. both.1 (rw at at right)) in omega (arith, ap start at, both.0);
    }
