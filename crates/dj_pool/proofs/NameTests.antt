-- A class name is the name whose segments are unqualified names.
use Rattle.std.proofs.Common.{◌≡◌, ◌≢◌, ℕ, ◌≤◌, false, nat_eq, take, subst, List, [], ◌∷◌, ◌++◌, length, All, Contains, codes, refl, sym, ap, ◌∙◌, arith}
use Rattle.std.specs.List.{AllByRecursion, join_with_byte, slice_split}
use Rattle.std.proofs.lemmas.Bool.Decides.{nat_tests}
use Rattle.std.proofs.lemmas.List.{take_all}
use Rattle.std.proofs.lemmas.List.Elements.{recursion_from_All}
use Rattle.std.proofs.lemmas.List.Splits.{join_with_byte-slice_split, slice_split_at, slice_split_none}
use Rattle.dj_names.specs.ClassNames.{IsUnqualifiedName, segments, joined, IsClassName}
use Rattle.dj_names.proofs.SegmentLemmas.{segments-is, some_segment}

joined_is : (xs : List (List ℕ)) → joined xs ≡ join_with_byte 47 xs
joined_is [] = refl
joined_is (x ∷ []) = refl
joined_is (x ∷ y ∷ xs) = ap (λ (t : List ℕ). x ++ 47 ∷ t) (joined_is (y ∷ xs))

no_slash : (unit : ℕ) → ¬ Contains (codes ".;[/") unit → nat_eq unit 47 ≡ false
no_slash unit plain = grind (arith, nat_tests, λ (e : unit ≡ 47). plain (3, omega arith, sym e))

no_slashes : (segment : List ℕ) → IsUnqualifiedName segment → All (λ unit. nat_eq unit 47 ≡ false) segment
no_slashes segment h = λ k d within. no_slash _ (h.plain k d within)

segments-joined : (xs : List (List ℕ)) → xs ≢ [] → AllByRecursion IsUnqualifiedName xs → segments (joined xs) ≡ xs
segments-joined [] some h = absurd (some refl)
segments-joined (x ∷ []) some h = segments-is x ∙ slice_split_none (λ unit. nat_eq unit 47) x (no_slashes x h.0)
segments-joined (x ∷ y ∷ xs) some h =
    segments-is (joined (x ∷ y ∷ xs)) ∙ slice_split_at (λ unit. nat_eq unit 47) x 47 (joined (y ∷ xs)) (no_slashes x h.0) refl
    ∙ ap (λ (t : List (List ℕ)). x ∷ t) (sym (segments-is (joined (y ∷ xs))) ∙ segments-joined (y ∷ xs) (λ e. cc) h.1)

pub class_name_by_segments : (name : List ℕ) → All IsUnqualifiedName (segments name) → IsClassName name
class_name_by_segments name h = record {
  segments = segments name;
  some_segment = λ e. omega (arith, some_segment name, ap length e);
  unqualified = h;
  is_joined = ap joined (segments-is name) ∙ joined_is (slice_split (λ unit. nat_eq unit 47) name) ∙ join_with_byte-slice_split 47 name;
}

pub segments_of_class_name : (name : List ℕ) → IsClassName name → All IsUnqualifiedName (segments name)
segments_of_class_name name h =
    let same : segments name ≡ h.segments = ap segments (sym h.is_joined) ∙ segments-joined h.segments h.some_segment (recursion_from_All IsUnqualifiedName h.segments h.unqualified) in
    rw same h.unqualified

-- all of the items that are taken are all
pub all_taken : {X : Type 0} (P : X → Type 0) (xs : List X) (n : ℕ) → length xs ≤ n → All P (take n xs) → All P xs
all_taken P xs n le h = subst (All P) (take_all n xs le) h
