-- When two lists are the same, item by item.
use Rattle.std.proofs.Common.{◌≡◌, ◌↔◌, Bool, List, [], ◌∷◌, length, map, IsTrue, refl, arith}
use Rattle.std.specs.List.{AllByRecursion, zip}

-- what two items are seen as is the same
abbrev pub AreSame : {X Y : Type 0} → (X → Y) → X × X → Type 0
AreSame view pair = view pair.0 ≡ view pair.1

same_from_pairs : {X Y : Type 0} (view : X → Y) (xs ys : List X) → length xs ≡ length ys → AllByRecursion (AreSame view) (zip xs ys) → map view xs ≡ map view ys
same_from_pairs view [] [] long pairs = refl
same_from_pairs view [] (y ∷ ys) long pairs = absurd (omega arith)
same_from_pairs view (x ∷ xs) [] long pairs = absurd (omega arith)
same_from_pairs view (x ∷ xs) (y ∷ ys) long pairs =
    let same = same_from_pairs view xs ys (omega arith) pairs.1 in
    let first = pairs.0 in
    cc

pairs_from_same : {X Y : Type 0} (view : X → Y) (xs ys : List X) → map view xs ≡ map view ys → AllByRecursion (AreSame view) (zip xs ys)
pairs_from_same view [] ys same = tt
pairs_from_same view (x ∷ xs) [] same = absurd cc
pairs_from_same view (x ∷ xs) (y ∷ ys) same = (cc, pairs_from_same view xs ys cc)

-- two lists of one length are seen as the same where each pair is
pub same_views : {X Y : Type 0} (view : X → Y) (xs ys : List X) (test : Bool) → length xs ≡ length ys → IsTrue test ↔ AllByRecursion (AreSame view) (zip xs ys) → IsTrue test ↔ (map view xs ≡ map view ys)
same_views view xs ys test long is = (λ yes. same_from_pairs view xs ys long (is.0 yes), λ same. is.1 (pairs_from_same view xs ys same))
