-- The parts of a name between its slashes, and tests of each of them.
use Rattle.std.proofs.Common.{◌≡◌, ◌↔◌, ℕ, ◌<◌, ◌==◌, Bool, true, false, cond, nat_lt, Some, None, position, take, List, [], ◌∷◌, length, All, IsTrue, refl, sym, ap, arith}
use Rattle.std.specs.Bool.{MatchBool}
use Rattle.std.specs.List.{AllWithin, HoldsAt, slice_split, onto_first, position_or_len, before_first}
use Rattle.std.proofs.lemmas.Bool.{false≢true}
use Rattle.std.proofs.lemmas.Bool.Decides.{nat_tests}
use Rattle.std.proofs.lemmas.List.{take_all}
use Rattle.std.proofs.lemmas.List.Elements.{All-from_all_within}
use Rattle.std.proofs.lemmas.List.Splits.{length-slice_split}
use Rattle.dj_names.specs.ClassNames.{in_front, segments}

in_front-is : (unit : ℕ) (parts : List (List ℕ)) → in_front unit parts ≡ onto_first unit parts
in_front-is unit [] = refl
in_front-is unit (first ∷ rest) = refl

-- the parts between the slashes are those that `split` gives
pub segments-is : (name : List ℕ) → segments name ≡ slice_split (λ unit. unit == 47) name
segments-is [] = refl
segments-is (unit ∷ rest) =
    rw (segments-is rest, in_front-is unit (slice_split (λ other. other == 47) rest))

-- a name has a part at least
pub some_segment : (name : List ℕ) → 0 < length (segments name)
some_segment name = omega (arith, ap length (segments-is name), length-slice_split (λ unit. unit == 47) name)

-- a test that stops at the first list without the property
pub all_decides : (P : List ℕ → Type 0) (xs : List (List ℕ)) (r : Bool) → MatchBool r (AllWithin P xs 0 (length xs)) ((k : ℕ) × (k < length xs) × HoldsAt (λ x. ¬ P x) xs k) → IsTrue r ↔ All P xs
all_decides P xs true h = (λ _. All-from_all_within P xs h, λ _. refl)
all_decides P xs false h = (λ e. absurd (false≢true e), λ all. absurd (h.2 [] (all h.0 [] h.1)))

some_at : (b : Bool) (n i : ℕ) → cond b (Some n) None ≡ Some i → n ≡ i
some_at true n i e = cc
some_at false n i e = absurd cc

none_at : (b : Bool) (n : ℕ) → cond b (Some n) None ≡ None → b ≡ false
none_at true n e = absurd cc
none_at false n e = refl

pub before_place : (p : ℕ → Bool) (xs : List ℕ) (i : ℕ) → position p xs ≡ Some i → take i xs ≡ before_first p xs
before_place p xs i e = ap (λ (n : ℕ). take n xs) (sym (some_at (nat_lt (position_or_len p xs) (length xs)) (position_or_len p xs) i e))

pub before_none : (p : ℕ → Bool) (xs : List ℕ) → position p xs ≡ None → xs ≡ before_first p xs
before_none p xs e =
    let past = none_at (nat_lt (position_or_len p xs) (length xs)) (position_or_len p xs) e in
    sym (take_all (position_or_len p xs) xs (grind (arith, nat_tests)))
