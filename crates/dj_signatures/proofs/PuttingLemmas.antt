-- Spelled parts put behind each other.
use Rattle.std.proofs.Common.{◌≡◌, ℕ, ◌+◌, ◌<◌, ◌≤◌, List, [], ◌∷◌, ◌++◌, map, take, drop, length, get_or, sym, ap, ◌∙◌}
use Rattle.std.proofs.Math.Numerals.{add-one}
use Rattle.std.proofs.Math.Seq.{drop-cons}
use Rattle.std.specs.List.{flat_map}
use Rattle.std.proofs.lemmas.List.{append_assoc, map_push, flat_map_more, take_more, take_all}
use Rattle.dj_names.specs.declared.types.JType as code
use Rattle.dj_names.specs.Types.{view_type, view_types}
use Rattle.dj_signatures.specs.Spelled.{spelled_units, spelled_type}

-- one more unit of a name
pub units_more : (text units : List ℕ) (i unit : ℕ) → i < length units → unit ≡ get_or units i 0 → ((text ++ 76 ∷ []) ++ unit ∷ []) ++ spelled_units (drop (i + 1) units) ≡ text ++ spelled_units (drop i units)
units_more text units i unit within is =
    let dropped : unit ∷ drop (i + 1) units ≡ drop i units = ap (λ (x : ℕ). x ∷ drop (i + 1) units) is ∙ rw add-one (sym (drop-cons units i 0 within)) in
    append_assoc (text ++ 76 ∷ []) (unit ∷ []) (spelled_units (drop (i + 1) units)) ∙ append_assoc text (76 ∷ []) (unit ∷ spelled_units (drop (i + 1) units)) ∙ ap (λ (us : List ℕ). text ++ spelled_units us) dropped

-- one more type
pub types_more : (front text new : List ℕ) (kinds : List code.JType) (i : ℕ) (kind : code.JType) → i < length kinds → kind ≡ get_or kinds i kind → text ≡ front ++ flat_map spelled_type (view_types (take i kinds))
    → new ≡ text ++ spelled_type (view_type kind) → new ≡ front ++ flat_map spelled_type (view_types (take (i + 1) kinds))
types_more front text new kinds i kind within is text_is new_is =
    let taken : take (i + 1) kinds ≡ take i kinds ++ kind ∷ [] = take_more kinds i kind within ∙ ap (λ (k : code.JType). take i kinds ++ k ∷ []) (sym is) in
    new_is ∙ ap (λ (t : List ℕ). t ++ spelled_type (view_type kind)) text_is ∙ flat_map_more spelled_type front (view_types (take i kinds)) (view_type kind)
    ∙ ap (λ ks. front ++ flat_map spelled_type ks) (sym (map_push view_type (take i kinds) kind) ∙ ap view_types (sym taken))

-- all types
pub types_all : (front text : List ℕ) (kinds : List code.JType) (i : ℕ) → length kinds ≤ i → text ≡ front ++ flat_map spelled_type (view_types (take i kinds)) → text ≡ front ++ flat_map spelled_type (view_types kinds)
types_all front text kinds i all is = is ∙ ap (λ (ks : List code.JType). front ++ flat_map spelled_type (view_types ks)) (take_all i kinds all)
