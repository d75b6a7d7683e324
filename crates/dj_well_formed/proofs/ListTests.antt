-- What a test of each item of a list says.
use Rattle.std.proofs.Common.{◌↔◌, ℕ, ◌<◌, Bool, true, false, List, [], ◌∷◌, length, map, IsTrue, All, refl, arith}
use Rattle.std.specs.Bool.{MatchBool}
use Rattle.std.specs.List.{AllByRecursion, AllWithin, HoldsAt}
use Rattle.std.proofs.lemmas.Bool.{false≢true}
use Rattle.std.proofs.lemmas.List.Elements.{All-from_all_within, All-from_recursion, recursion_from_All}

map_recursion : {X Y : Type 0} (view : X → Y) (P : Y → Type 0) (xs : List X) → AllByRecursion (λ x. P (view x)) xs → AllByRecursion P (map view xs)
map_recursion view P [] all = tt
map_recursion view P (x ∷ xs) all = (all.0, map_recursion view P xs all.1)

recursion_map : {X Y : Type 0} (view : X → Y) (P : Y → Type 0) (xs : List X) → AllByRecursion P (map view xs) → AllByRecursion (λ x. P (view x)) xs
recursion_map view P [] all = tt
recursion_map view P (x ∷ xs) all = (all.0, recursion_map view P xs all.1)

-- a test of each item is one by recursion
pub each : {X : Type 0} (P : X → Type 0) (xs : List X) (test : Bool) → IsTrue test ↔ All P xs → IsTrue test ↔ AllByRecursion P xs
each P xs test is = (λ yes. recursion_from_All P xs (is.0 yes), λ all. is.1 (All-from_recursion P xs all))

-- a test of each item is one of what the items are seen as
pub each_view : {X Y : Type 0} (view : X → Y) (P : Y → Type 0) (xs : List X) (test : Bool) → IsTrue test ↔ All (λ x. P (view x)) xs → IsTrue test ↔ AllByRecursion P (map view xs)
each_view view P xs test is = (
  λ yes. map_recursion view P xs (recursion_from_All (λ x. P (view x)) xs (is.0 yes)),
  λ all. is.1 (All-from_recursion (λ x. P (view x)) xs (recursion_map view P xs all)),
)

-- a test that stops at the first item without the property
pub each_found : {X : Type 0} (P : X → Type 0) (xs : List X) (test : Bool) → MatchBool test (AllWithin P xs 0 (length xs)) ((at : ℕ) × (at < length xs) × HoldsAt (λ x. ¬ P x) xs at) → IsTrue test ↔ AllByRecursion P xs
each_found P xs true found = (λ _. recursion_from_All P xs (All-from_all_within P xs found), λ _. refl)
each_found P [] false (at, within, fails) = absurd (omega arith)
each_found P (x ∷ xs) false (at, within, fails) = (λ yes. absurd (false≢true yes), λ all. absurd (fails x (All-from_recursion P (x ∷ xs) all at x within)))
