-- The stack from the top down: what stands last in the program stands first there.
use Rattle.std.proofs.Common.{◌≡◌, ℕ, zero, suc, ◌+◌, ◌-◌, ◌<◌, ◌≤◌, List, [], ◌∷◌, ◌++◌, length, drop, take, inl, inr, subst, Option, Some, None, refl, sym, ap, ◌∙◌, arith, append_assoc, append-nil, length-append}
use Rattle.std.specs.Prelude.{slice_get, option_to_list, option_map, MatchOption, IsSome, ◌↔◌}
use Rattle.std.proofs.lemmas.List.{length-drop, take-append-drop}
use Rattle.std.proofs.lemmas.Bool.{cases_lt}
use Rattle.std.proofs.lemmas.Option.{slice_get_past}
use Rattle.std.proofs.Math.Seq.{drop-append_seam}
use Rattle.std.proofs.Math.ListN.{drop_of_length-le}
use Rattle.dj_values.specs.declared.value.Value as code_value
use Rattle.dj_values.specs.Values.{Value}
use Rattle.dj_values.specs.Views.{view_value}
use Rattle.dj_operands.specs.Stacks.{top_down}

-- what stands behind stands above
pub top_down-append : (below above : List code_value.Value) → top_down (below ++ above) ≡ top_down above ++ top_down below
top_down-append [] above = sym (append-nil (top_down above))
top_down-append (value ∷ below) above =
    ap (λ list. list ++ view_value value ∷ []) (top_down-append below above) ∙ append_assoc (top_down above) (top_down below) (view_value value ∷ [])

pub length-top_down : (values : List code_value.Value) → length (top_down values) ≡ length values
length-top_down [] = refl
length-top_down (value ∷ rest) = length-append (top_down rest) (view_value value ∷ []) ∙ omega (arith, length-top_down rest)

-- the last value leaves, if there is one
pub top_leaves : (old new : List code_value.Value) (last : Option code_value.Value) → old ≡ new ++ option_to_list last → (IsSome last ↔ (0 < length old))
    → MatchOption last ((top_down old ≡ []) × (top_down new ≡ [])) (λ top. top_down old ≡ view_value top ∷ top_down new)
top_leaves old new (Some value) is some = ap top_down is ∙ top_down-append new (value ∷ [])
top_leaves [] [] None is some = (refl, refl)
top_leaves [] (value ∷ rest) None is some = absurd (cc)
top_leaves (value ∷ rest) new None is some = let wrong : IsSome {T = code_value.Value} None = some.1 (omega arith) in absurd (cc)

-- what is cut off stands above what is left
pub cut_top : (values : List code_value.Value) (at : ℕ) → top_down values ≡ top_down (drop at values) ++ top_down (take at values)
cut_top values at = ap top_down (sym (take-append-drop at values)) ∙ top_down-append (take at values) (drop at values)

-- what is left once so many values are dropped
pub dropped_top : (values : List code_value.Value) (count : ℕ) → top_down (take (length values - count) values) ≡ drop count (top_down values)
dropped_top values count = elim (cases_lt (length values) count) [
  | inl short ↦
      let none : length values - count ≡ 0 = omega arith in
      rw none (sym (drop_of_length-le (top_down values) (omega (arith, length-top_down values))))
  | inr enough ↦
      let cut = top_down (drop (length values - count) values) in
      let kept = top_down (take (length values - count) values) in
      let as_many : length cut ≡ count = length-top_down (drop (length values - count) values) ∙ length-drop (length values - count) values ∙ omega arith in
      sym (ap (drop count) (cut_top values (length values - count)) ∙ subst (λ n. drop n (cut ++ kept) ≡ kept) as_many (drop-append_seam cut kept))
]

-- ---- the value at a place

get_seam : (before : List Value) (value : Value) → slice_get (before ++ value ∷ []) (length before) ≡ Some value
get_seam [] value = refl
get_seam (first ∷ before) value = get_seam before value

get_before : (before behind : List Value) (place : ℕ) (value : Value) → slice_get before place ≡ Some value → slice_get (before ++ behind) place ≡ Some value
get_before [] behind place value is = absurd (cc)
get_before (first ∷ before) behind zero value is = is
get_before (first ∷ before) behind (suc place) value is = get_before before behind place value is

pub got_top : (values : List code_value.Value) (at place : ℕ) (value : code_value.Value) → slice_get values at ≡ Some value → at + suc place ≡ length values → slice_get (top_down values) place ≡ Some (view_value value)
got_top [] at place value is as_far = absurd (cc)
got_top (first ∷ rest) zero place value is as_far =
    let here : place ≡ length (top_down rest) = omega (arith, length-top_down rest) in
    rw here (get_seam (top_down rest) (view_value first) ∙ ap (option_map view_value) is)
got_top (first ∷ rest) (suc at) place value is as_far = get_before (top_down rest) (view_value first ∷ []) place (view_value value) (got_top rest at place value is (omega arith))

pub got_none : (values : List code_value.Value) (place : ℕ) → length values ≤ place → slice_get (top_down values) place ≡ None
got_none values place past = slice_get_past (top_down values) place (omega (arith, length-top_down values))
