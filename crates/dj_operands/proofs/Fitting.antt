-- Values fitted one after another.
use Rattle.std.proofs.Common.{◌≡◌, ℕ, zero, suc, ◌<◌, ◌≤◌, List, [], ◌∷◌, ◌++◌, length, drop, Option, Some, None, get_or, refl, sym, ap, ◌∙◌, subst, arith}
use Rattle.std.specs.Prelude.{option_map}
use Rattle.std.proofs.lemmas.List.{append-nil, append_assoc, map-append}
use Rattle.dj_names.specs.declared.types.JType as code_type
use Rattle.dj_names.specs.Types.{JType, view_type, view_types}
use Rattle.dj_values.specs.declared.value.Value as code_value
use Rattle.dj_values.specs.Values.{Value}
use Rattle.dj_values.specs.Views.{view_value, view_values}
use Rattle.dj_values.specs.Outcomes.{Stuck, Reply, Gives, Halts, there}
use Rattle.dj_bytecode.specs.Operands.{fitted, all_fitted}

-- so many values have been fitted, these are left, and whatever they come to, all of them come to that behind what has been kept
pub record Fits (types : List JType) (values : List Value) (left : List JType) (behind kept : List Value) : Type 0 where
  pub whole : (rest : Option (List Value)) → all_fitted left behind ≡ there rest → all_fitted types values ≡ there (option_map (λ more. kept ++ more) rest)

same_rest : (reply : Reply (List Value)) (rest : Option (List Value)) → reply ≡ there rest → reply ≡ there (option_map (λ more. [] ++ more) rest)
same_rest reply None is = is
same_rest reply (Some more) is = is

pub fits_none : (types : List JType) (values : List Value) → Fits types values types values []
fits_none types values = record { whole = same_rest (all_fitted types values) }

one_fits : (type : JType) (types : List JType) (value kept : Value) (values : List Value) (rest : Option (List Value)) → fitted type value ≡ Gives kept → all_fitted types values ≡ there rest → all_fitted (type ∷ types) (value ∷ values) ≡ there (option_map (λ more. kept ∷ more) rest)
one_fits type types value kept values None one is = rw (one, is) refl
one_fits type types value kept values (Some more) one is = rw (one, is) refl

joined : (kept : List Value) (value : Value) (rest : Option (List Value)) → there (option_map (λ more. kept ++ more) (option_map (λ more. value ∷ more) rest)) ≡ there (option_map (λ more. (kept ++ value ∷ []) ++ more) rest)
joined kept value None = refl
joined kept value (Some more) = ap Gives (sym (append_assoc kept (value ∷ []) more))

-- one value more
pub fits_more : (types : List JType) (values : List Value) (type : JType) (left : List JType) (value fit : Value) (behind kept : List Value) → Fits types values (type ∷ left) (value ∷ behind) kept → fitted type value ≡ Gives fit → Fits types values left behind (kept ++ fit ∷ [])
fits_more types values type left value fit behind kept fits one = record {
  whole = λ rest is. fits.whole (option_map (λ more. fit ∷ more) rest) (one_fits type left value fit behind rest one is) ∙ joined kept fit rest;
}

-- a value that doesn't fit, or none
pub fits_not : (types : List JType) (values : List Value) (type : JType) (left : List JType) (value : Value) (behind kept : List Value) → Fits types values (type ∷ left) (value ∷ behind) kept → fitted type value ≡ Halts Stuck → all_fitted types values ≡ Halts Stuck
fits_not types values type left value behind kept fits one = fits.whole None (rw one refl)

pub fits_few : (types : List JType) (values : List Value) (type : JType) (left : List JType) (kept : List Value) → Fits types values (type ∷ left) [] kept → all_fitted types values ≡ Halts Stuck
fits_few types values type left kept fits = fits.whole None refl

-- the end
pub fits_all : (types : List JType) (values kept : List Value) → Fits types values [] [] kept → all_fitted types values ≡ Gives kept
fits_all types values kept fits = fits.whole (Some []) refl ∙ ap Gives (append-nil kept)

pub fits_over : (types : List JType) (values : List Value) (value : Value) (behind kept : List Value) → Fits types values [] (value ∷ behind) kept → all_fitted types values ≡ Halts Stuck
fits_over types values value behind kept fits = fits.whole None refl

-- ---- types and values of the code

types_some : (kinds : List code_type.JType) (k : ℕ) → k < length kinds → (type : JType) × (drop k (view_types kinds) ≡ type ∷ drop (suc k) (view_types kinds))
types_some [] k within = absurd (omega arith)
types_some (first ∷ kinds) zero within = (view_type first, refl)
types_some (first ∷ kinds) (suc k) within = types_some kinds k (omega arith)

types_here : (kinds : List code_type.JType) (k : ℕ) (kind : code_type.JType) → k < length kinds → kind ≡ get_or kinds k kind → drop k (view_types kinds) ≡ view_type kind ∷ drop (suc k) (view_types kinds)
types_here [] k kind within is = absurd (omega arith)
types_here (first ∷ kinds) zero kind within is = ap (λ one. view_type one ∷ view_types kinds) (sym is)
types_here (first ∷ kinds) (suc k) kind within is = types_here kinds k kind (omega arith) is

types_past : (kinds : List code_type.JType) (k : ℕ) → length kinds ≤ k → drop k (view_types kinds) ≡ []
types_past [] zero past = refl
types_past [] (suc k) past = refl
types_past (first ∷ kinds) zero past = absurd (omega arith)
types_past (first ∷ kinds) (suc k) past = types_past kinds k (omega arith)

values_some : (values : List code_value.Value) (k : ℕ) → k < length values → (value : Value) × (drop k (view_values values) ≡ value ∷ drop (suc k) (view_values values))
values_some [] k within = absurd (omega arith)
values_some (first ∷ values) zero within = (view_value first, refl)
values_some (first ∷ values) (suc k) within = values_some values k (omega arith)

values_here : (values : List code_value.Value) (k : ℕ) (value : code_value.Value) → k < length values → value ≡ get_or values k value → drop k (view_values values) ≡ view_value value ∷ drop (suc k) (view_values values)
values_here [] k value within is = absurd (omega arith)
values_here (first ∷ values) zero value within is = ap (λ one. view_value one ∷ view_values values) (sym is)
values_here (first ∷ values) (suc k) value within is = values_here values k value (omega arith) is

values_past : (values : List code_value.Value) (k : ℕ) → length values ≤ k → drop k (view_values values) ≡ []
values_past [] zero past = refl
values_past [] (suc k) past = refl
values_past (first ∷ values) zero past = absurd (omega arith)
values_past (first ∷ values) (suc k) past = values_past values k (omega arith)

-- so many of these values have been fitted to as many of these types
abbrev pub FitsTo : List code_type.JType → List code_value.Value → ℕ → List code_value.Value → Type 0
FitsTo kinds values k kept = Fits (view_types kinds) (view_values values) (drop k (view_types kinds)) (drop k (view_values values)) (view_values kept)

both : (types : List JType) (values : List Value) (left left' : List JType) (behind behind' kept : List Value) → left ≡ left' → behind ≡ behind' → Fits types values left behind kept → Fits types values left' behind' kept
both types values left left' behind behind' kept same as_well fits =
    subst (λ one. Fits types values one behind' kept) same (subst (λ one. Fits types values left one kept) as_well fits)

pub too_few : (kinds : List code_type.JType) (values kept : List code_value.Value) (k : ℕ) → k < length kinds → length values ≤ k → FitsTo kinds values k kept → all_fitted (view_types kinds) (view_values values) ≡ Halts Stuck
too_few kinds values kept k within past fits =
    let some = types_some kinds k within in
    fits_few (view_types kinds) (view_values values) some.0 (drop (suc k) (view_types kinds)) (view_values kept)
    (both (view_types kinds) (view_values values) (drop k (view_types kinds)) (some.0 ∷ drop (suc k) (view_types kinds)) (drop k (view_values values)) [] (view_values kept) some.1 (values_past values k past) fits)

pub no_fit : (kinds : List code_type.JType) (values kept : List code_value.Value) (k : ℕ) (kind : code_type.JType) (value : code_value.Value) → k < length kinds → k < length values → kind ≡ get_or kinds k kind → value ≡ get_or values k value
    → fitted (view_type kind) (view_value value) ≡ Halts Stuck → FitsTo kinds values k kept → all_fitted (view_types kinds) (view_values values) ≡ Halts Stuck
no_fit kinds values kept k kind value within inside is same one fits =
    fits_not (view_types kinds) (view_values values) (view_type kind) (drop (suc k) (view_types kinds)) (view_value value) (drop (suc k) (view_values values)) (view_values kept)
    (both (view_types kinds) (view_values values) (drop k (view_types kinds)) (view_type kind ∷ drop (suc k) (view_types kinds)) (drop k (view_values values)) (view_value value ∷ drop (suc k) (view_values values)) (view_values kept) (types_here kinds k kind within is) (values_here values k value inside same) fits) one

pub one_more : (kinds : List code_type.JType) (values kept new : List code_value.Value) (k : ℕ) (kind : code_type.JType) (value fit : code_value.Value) → k < length kinds → k < length values → kind ≡ get_or kinds k kind → value ≡ get_or values k value
    → Gives (view_value fit) ≡ fitted (view_type kind) (view_value value) → new ≡ kept ++ fit ∷ [] → FitsTo kinds values k kept → FitsTo kinds values (suc k) new
one_more kinds values kept new k kind value fit within inside is same one pushed fits =
    subst (λ list. Fits (view_types kinds) (view_values values) (drop (suc k) (view_types kinds)) (drop (suc k) (view_values values)) list) (sym (ap view_values pushed ∙ map-append view_value kept (fit ∷ [])))
    (fits_more (view_types kinds) (view_values values) (view_type kind) (drop (suc k) (view_types kinds)) (view_value value) (view_value fit) (drop (suc k) (view_values values)) (view_values kept)
    (both (view_types kinds) (view_values values) (drop k (view_types kinds)) (view_type kind ∷ drop (suc k) (view_types kinds)) (drop k (view_values values)) (view_value value ∷ drop (suc k) (view_values values)) (view_values kept) (types_here kinds k kind within is) (values_here values k value inside same) fits) (sym one))

pub all_fit : (kinds : List code_type.JType) (values kept : List code_value.Value) (k : ℕ) → length kinds ≤ k → length values ≤ k → FitsTo kinds values k kept → all_fitted (view_types kinds) (view_values values) ≡ Gives (view_values kept)
all_fit kinds values kept k past over fits =
    fits_all (view_types kinds) (view_values values) (view_values kept)
    (both (view_types kinds) (view_values values) (drop k (view_types kinds)) [] (drop k (view_values values)) [] (view_values kept) (types_past kinds k past) (values_past values k over) fits)

pub too_many : (kinds : List code_type.JType) (values kept : List code_value.Value) (k : ℕ) → length kinds ≤ k → k < length values → FitsTo kinds values k kept → all_fitted (view_types kinds) (view_values values) ≡ Halts Stuck
too_many kinds values kept k past inside fits =
    let some = values_some values k inside in
    fits_over (view_types kinds) (view_values values) some.0 (drop (suc k) (view_values values)) (view_values kept)
    (both (view_types kinds) (view_values values) (drop k (view_types kinds)) [] (drop k (view_values values)) (some.0 ∷ drop (suc k) (view_values values)) (view_values kept) (types_past kinds k past) some.1 fits)
