-- The stack from the top down: what stands last in the program stands first there.
use Rattle.std.proofs.Common.{◌≡◌, ℕ, zero, suc, ◌+◌, ◌-◌, ◌<◌, ◌≤◌, List, [], ◌∷◌, ◌++◌, length, drop, take, inl, inr, subst, Option, Some, None, refl, sym, ap, ◌∙◌, arith, append_assoc, append-nil, length-append}
use Rattle.std.specs.Prelude.{slice_get, option_to_list, option_map, MatchOption, IsSome, ◌↔◌}
use Rattle.std.proofs.lemmas.List.{length-drop, take-append-drop}
use Rattle.std.proofs.lemmas.Bool.{cases_lt}
use Rattle.std.proofs.lemmas.Option.{slice_get_past}
use Rattle.std.proofs.Math.Seq.{drop-append_seam}
use Rattle.std.proofs.Math.ListN.{drop_of_length-le}
use Rattle.dj_pending.specs.declared.entry.Entry as code_entry
use Rattle.dj_rebuilding.specs.Pending.{Pending}
use Rattle.dj_pending.specs.Entries.{view_entry}
use Rattle.dj_pending.specs.Stacks.{top_down}

-- what stands behind stands above
pub top_down-append : (below above : List code_entry.Entry) → top_down (below ++ above) ≡ top_down above ++ top_down below
top_down-append [] above = sym (append-nil (top_down above))
top_down-append (entry ∷ below) above =
    ap (λ list. list ++ view_entry entry ∷ []) (top_down-append below above) ∙ append_assoc (top_down above) (top_down below) (view_entry entry ∷ [])

pub length-top_down : (entries : List code_entry.Entry) → length (top_down entries) ≡ length entries
length-top_down [] = refl
length-top_down (entry ∷ rest) = length-append (top_down rest) (view_entry entry ∷ []) ∙ omega (arith, length-top_down rest)

-- the last entry leaves, if there is one
pub top_leaves : (old new : List code_entry.Entry) (last : Option code_entry.Entry) → old ≡ new ++ option_to_list last → (IsSome last ↔ (0 < length old))
    → MatchOption last ((top_down old ≡ []) × (top_down new ≡ [])) (λ top. top_down old ≡ view_entry top ∷ top_down new)
top_leaves old new (Some entry) is some = ap top_down is ∙ top_down-append new (entry ∷ [])
top_leaves [] [] None is some = (refl, refl)
top_leaves [] (entry ∷ rest) None is some = absurd (cc)
top_leaves (entry ∷ rest) new None is some = let wrong : IsSome {T = code_entry.Entry} None = some.1 (omega arith) in absurd (cc)

-- what is cut off stands above what is left
pub cut_top : (entries : List code_entry.Entry) (at : ℕ) → top_down entries ≡ top_down (drop at entries) ++ top_down (take at entries)
cut_top entries at = ap top_down (sym (take-append-drop at entries)) ∙ top_down-append (take at entries) (drop at entries)

-- what is left once so many entries are dropped
pub dropped_top : (entries : List code_entry.Entry) (count : ℕ) → top_down (take (length entries - count) entries) ≡ drop count (top_down entries)
dropped_top entries count = elim (cases_lt (length entries) count) [
  | inl short ↦
      let none : length entries - count ≡ 0 = omega arith in
      rw none (sym (drop_of_length-le (top_down entries) (omega (arith, length-top_down entries))))
  | inr enough ↦
      let cut = top_down (drop (length entries - count) entries) in
      let kept = top_down (take (length entries - count) entries) in
      let as_many : length cut ≡ count = length-top_down (drop (length entries - count) entries) ∙ length-drop (length entries - count) entries ∙ omega arith in
      sym (ap (drop count) (cut_top entries (length entries - count)) ∙ subst (λ n. drop n (cut ++ kept) ≡ kept) as_many (drop-append_seam cut kept))
]

-- ---- the entry at a place

get_seam : (before : List Pending) (entry : Pending) → slice_get (before ++ entry ∷ []) (length before) ≡ Some entry
get_seam [] entry = refl
get_seam (first ∷ before) entry = get_seam before entry

get_before : (before behind : List Pending) (place : ℕ) (entry : Pending) → slice_get before place ≡ Some entry → slice_get (before ++ behind) place ≡ Some entry
get_before [] behind place entry is = absurd (cc)
get_before (first ∷ before) behind zero entry is = is
get_before (first ∷ before) behind (suc place) entry is = get_before before behind place entry is

pub got_top : (entries : List code_entry.Entry) (at place : ℕ) (entry : code_entry.Entry) → slice_get entries at ≡ Some entry → at + suc place ≡ length entries → slice_get (top_down entries) place ≡ Some (view_entry entry)
got_top [] at place entry is as_far = absurd (cc)
got_top (first ∷ rest) zero place entry is as_far =
    let here : place ≡ length (top_down rest) = omega (arith, length-top_down rest) in
    rw here (get_seam (top_down rest) (view_entry first) ∙ ap (option_map view_entry) is)
got_top (first ∷ rest) (suc at) place entry is as_far = get_before (top_down rest) (view_entry first ∷ []) place (view_entry entry) (got_top rest at place entry is (omega arith))

pub got_none : (entries : List code_entry.Entry) (place : ℕ) → length entries ≤ place → slice_get (top_down entries) place ≡ None
got_none entries place past = slice_get_past (top_down entries) place (omega (arith, length-top_down entries))
