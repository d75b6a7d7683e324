-- Locals as the definition sees them.
use Rattle.std.proofs.Common.{◌≡◌, ℕ, zero, suc, ◌+◌, ◌-◌, ◌<◌, ◌≤◌, List, [], ◌∷◌, ◌++◌, length, drop, replicate, get_or, Option, Some, None, refl, sym, ap, ◌∙◌, arith}
use Rattle.std.specs.Prelude.{slice_get, slice_set, slice_index_or, option_map}
use Rattle.std.proofs.lemmas.List.{append-nil, append_assoc, map-append, map-set, length-map, length_push}
use Rattle.std.proofs.lemmas.Option.{slice_get-map, get_or_from_slice_get}
use Rattle.dj_values.specs.declared.value.Value as code_value
use Rattle.dj_values.specs.Values.{Value, Int, Long, Null, Ref}
use Rattle.dj_values.specs.Views.{view_value, view_values}
use Rattle.dj_bytecode.specs.Machine.{Locals, slots_of, first_locals}
use Rattle.dj_machine.specs.Runs.{view_slots}

-- ---- slots behind others

pub pushed_one : (slots new : List (Option code_value.Value)) (slot : Option code_value.Value) → new ≡ slots ++ slot ∷ [] → view_slots new ≡ view_slots slots ++ option_map view_value slot ∷ []
pushed_one slots new slot is = ap view_slots is ∙ map-append (option_map view_value) slots (slot ∷ [])

pub pushed_two : (slots mid new : List (Option code_value.Value)) (first second : Option code_value.Value) → mid ≡ slots ++ first ∷ [] → new ≡ mid ++ second ∷ []
    → view_slots new ≡ view_slots slots ++ option_map view_value first ∷ option_map view_value second ∷ []
pushed_two slots mid new first second is then_is =
    pushed_one mid new second then_is ∙ ap (λ list. list ++ option_map view_value second ∷ []) (pushed_one slots mid first is)
    ∙ append_assoc (view_slots slots) (option_map view_value first ∷ []) (option_map view_value second ∷ [])

-- ---- arguments

slots_cons : (value : Value) (rest : List Value) → slots_of (value ∷ rest) ≡ slots_of (value ∷ []) ++ slots_of rest
slots_cons (Int number) rest = refl
slots_cons (Long number) rest = refl
slots_cons Null rest = refl
slots_cons (Ref reference) rest = refl

pub values_here : (values : List code_value.Value) (k : ℕ) (value : code_value.Value) → k < length values → value ≡ get_or values k value → drop k (view_values values) ≡ view_value value ∷ drop (suc k) (view_values values)
values_here [] k value within is = absurd (omega arith)
values_here (first ∷ values) zero value within is = ap (λ one. view_value one ∷ view_values values) (sym is)
values_here (first ∷ values) (suc k) value within is = values_here values k value (omega arith) is

pub values_past : (values : List code_value.Value) (k : ℕ) → length values ≤ k → drop k (view_values values) ≡ []
values_past [] zero past = refl
values_past [] (suc k) past = refl
values_past (first ∷ values) zero past = absurd (omega arith)
values_past (first ∷ values) (suc k) past = values_past values k (omega arith)

pub slots_more : (values : List code_value.Value) (k : ℕ) (value : code_value.Value) (before after all : Locals) → k < length values → value ≡ get_or values k value → after ≡ before ++ slots_of (view_value value ∷ [])
    → before ++ slots_of (drop k (view_values values)) ≡ all → after ++ slots_of (drop (suc k) (view_values values)) ≡ all
slots_more values k value before after all within is pushed so_far =
    let behind = slots_of (drop (suc k) (view_values values)) in
    ap (λ list. list ++ behind) pushed ∙ append_assoc before (slots_of (view_value value ∷ [])) behind
    ∙ ap (λ list. before ++ list) (sym (slots_cons (view_value value) (drop (suc k) (view_values values))) ∙ ap slots_of (sym (values_here values k value within is))) ∙ so_far

pub slots_all : (values : List code_value.Value) (k : ℕ) (after all : Locals) → length values ≤ k → after ++ slots_of (drop k (view_values values)) ≡ all → after ≡ all
slots_all values k after all past so_far = sym (append-nil after) ∙ ap (λ list. after ++ slots_of list) (sym (values_past values k past)) ∙ so_far

-- ---- empty slots

pub filled_more : (slots new : List (Option code_value.Value)) (most : ℕ) (all : Locals) → new ≡ slots ++ None ∷ [] → length slots < most
    → view_slots slots ++ replicate (most - length slots) None ≡ all → view_slots new ++ replicate (most - length new) None ≡ all
filled_more slots new most all is within so_far =
    let longer : length new ≡ length slots + 1 = ap length is ∙ length_push slots None in
    let less : most - length slots ≡ suc (most - length new) = omega arith in
    ap (λ list. list ++ replicate (most - length new) None) (pushed_one slots new None is) ∙ append_assoc (view_slots slots) (None ∷ []) (replicate (most - length new) None)
    ∙ ap (λ count. view_slots slots ++ replicate count None) (sym less) ∙ so_far

pub filled_all : (slots : List (Option code_value.Value)) (most : ℕ) (all : Locals) → most ≤ length slots → view_slots slots ++ replicate (most - length slots) None ≡ all → view_slots slots ≡ all
filled_all slots most all past so_far =
    let none : most - length slots ≡ 0 = omega arith in
    sym (append-nil (view_slots slots)) ∙ ap (λ count. view_slots slots ++ replicate count None) (sym none) ∙ so_far

-- the locals that a method begins with
pub first_are : (most : ℕ) (arguments : List Value) (slots all : List (Option code_value.Value)) → view_slots slots ≡ slots_of arguments → view_slots all ≡ view_slots slots ++ replicate (most - length slots) None → view_slots all ≡ first_locals most arguments
first_are most arguments slots all is filled =
    let as_many : length slots ≡ length (slots_of arguments) = sym (length-map slots (option_map view_value)) ∙ ap length is in
    filled ∙ ap (λ list. list ++ replicate (most - length slots) None) is ∙ ap (λ count. slots_of arguments ++ replicate (most - count) None) as_many

-- ---- one slot

pub slot_is : (slots : List (Option code_value.Value)) (k : ℕ) (slot : Option code_value.Value) → Some slot ≡ slice_get slots k → option_map view_value slot ≡ slice_index_or (view_slots slots) k None
slot_is slots k slot is =
    sym (get_or_from_slice_get (view_slots slots) k (option_map view_value slot) None (slice_get-map (option_map view_value) slots k ∙ ap (option_map (option_map view_value)) (sym is)))

pub slot_none : (slots : List (Option code_value.Value)) (k : ℕ) → None ≡ slice_get slots k → None ≡ slice_index_or (view_slots slots) k None
slot_none [] k is = refl
slot_none (first ∷ slots) zero is = absurd (cc)
slot_none (first ∷ slots) (suc k) is = slot_none slots k is

pub set_slot : (slots new : List (Option code_value.Value)) (k : ℕ) (value : code_value.Value) → new ≡ slice_set slots k (Some value) → view_slots new ≡ slice_set (view_slots slots) k (Some (view_value value))
set_slot slots new k value is = ap view_slots is ∙ map-set (option_map view_value) slots k (Some value)

pub no_slot : (slots : List (Option code_value.Value)) (k : ℕ) (value : Option Value) → length slots ≤ k → view_slots slots ≡ slice_set (view_slots slots) k value
no_slot [] zero value past = refl
no_slot [] (suc k) value past = refl
no_slot (first ∷ slots) zero value past = absurd (omega arith)
no_slot (first ∷ slots) (suc k) value past = ap (λ list. option_map view_value first ∷ list) (no_slot slots k value (omega arith))
