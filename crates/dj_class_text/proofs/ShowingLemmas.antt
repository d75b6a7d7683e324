-- The members that the text of a class shows, one place after another.
use Rattle.std.proofs.Common.{◌≡◌, ℕ, zero, suc, ◌+◌, ◌<◌, ◌≤◌, Bool, List, [], ◌∷◌, ◌++◌, Option, Some, None, IsSomeAnd, MatchOption, map, take, drop, length, get_or, slice_get, append_assoc, append-nil, refl, sym, ap, subst, ◌∙◌, arith}
use Rattle.std.specs.Prelude.{option_map, reverse}
use Rattle.std.specs.Option.{option_to_list}
use Rattle.std.proofs.lemmas.List.{drop_more, drop_all, map-append, reverse-append}
use Rattle.dj_names.specs.Headers.{Name}
use Rattle.dj_class.specs.declared.method.Method.{Method}
use Rattle.dj_names.specs.declared.members.Field.{Field}
use Rattle.dj_class.specs.Described.{ClassOf}
use Rattle.dj_class.specs.Views.{view_field, view_method}
use Rattle.dj_world.specs.Worlds.{WorldOf}
use Rattle.dj_syntax.specs.declared.unit.FieldText.{FieldText as code_field}
use Rattle.dj_syntax.specs.declared.unit.MethodText.{MethodText as code_method}
use Rattle.dj_syntax.specs.declared.unit.Body.{Body as code_body}
use Rattle.dj_syntax.specs.Trees as trees
use Rattle.dj_causes.specs.declared.cause.FieldCause.{FieldCause}
use Rattle.dj_causes.specs.FieldCauses.{HasFieldCause}
use Rattle.dj_causes.specs.declared.cause.Cause.{Cause}
use Rattle.dj_causes.specs.BareCauses.{HasBareCause, IsBareCause, IsUnsaid}
use Rattle.dj_class_text.specs.Fields.{field_text, ShowsFields}
use Rattle.dj_class_text.specs.Fields as fields
use Rattle.dj_class_text.specs.Methods.{IsFreeOfCauses, IsTextOfMethod, ShowsMethods}
use Rattle.dj_class_text.specs.Methods as methods

-- the rest of a list from a place on
rest_is : {A : Type 0} (xs : List A) (i : ℕ) (x : A) → i < length xs → x ≡ get_or xs i x → drop i xs ≡ x ∷ drop (i + 1) xs
rest_is xs i x within is = drop_more xs i x within ∙ ap (λ (y : _). y ∷ drop (i + 1) xs) (sym is)

pub same_length : {A : Type 0} {xs ys : List A} → xs ≡ ys → length xs ≡ length ys
same_length {xs = xs} is = ap (λ (zs : List _). length zs) is

-- the last of the first items of a list, and those before it
pub popped_front : {A : Type 0} (all xs : List A) (x : A) (n : ℕ) → xs ++ x ∷ [] ≡ take n all → (xs ≡ take (length xs) all) × (x ≡ get_or all (length xs) x) × (length xs < length all)
popped_front [] [] x zero is = absurd cc
popped_front [] [] x (suc n) is = absurd cc
popped_front [] (y ∷ xs) x zero is = absurd cc
popped_front [] (y ∷ xs) x (suc n) is = absurd cc
popped_front (a ∷ all) [] x zero is = absurd cc
popped_front (a ∷ all) (y ∷ xs) x zero is = absurd cc
popped_front (a ∷ all) [] x (suc n) is = (refl, cc, omega arith)
popped_front (a ∷ all) (y ∷ xs) x (suc n) is =
    let rest = popped_front all xs x n cc in
    (let before = rest.0 in cc, rest.1, let within = rest.2 in omega (arith, within))

-- ---- fields

module _ (world : WorldOf) (class : ClassOf) (interface : Bool) (all : List Field) where
  abbrev Shows : ℕ → List Field → List trees.FieldText → Type 0
  Shows at these texts = ShowsFields world class interface at (map view_field these) texts

  -- what the first fields show, whatever the rest does
  abbrev pub ShownSoFar : ℕ → List code_field → Type 0
  ShownSoFar at texts = (rest : List trees.FieldText) → Shows at (drop at all) rest → Shows 0 all (map trees.view_field texts ++ rest)

  pub fields_begin : ShownSoFar 0 []
  fields_begin rest shows = shows

  module _ (at : ℕ) (field : Field) (within : at < length all) (is : field ≡ get_or all at field) (texts : List code_field) (before : ShownSoFar at texts) where
    pub field_left : (cause : FieldCause) → HasFieldCause world class at cause → ShownSoFar (at + 1) texts
    field_left cause has rest shows =
        before rest (subst (λ (these : List Field). Shows at these rest) (sym (rest_is all at field within is)) (fields.absent cause has shows))

    pub field_shown : (text : code_field) → ((cause : FieldCause) → ¬ HasFieldCause world class at cause) → trees.view_field text ≡ field_text interface (view_field field) → ShownSoFar (at + 1) (texts ++ text ∷ [])
    field_shown text none is_text rest shows =
        subst (Shows 0 all) (sym (ap (λ (xs : List trees.FieldText). xs ++ rest) (map-append trees.view_field texts (text ∷ [])) ∙ append_assoc (map trees.view_field texts) (trees.view_field text ∷ []) rest))
        (before (trees.view_field text ∷ rest) (subst (λ (these : List Field). Shows at these (trees.view_field text ∷ rest)) (sym (rest_is all at field within is))
        (subst (λ (t : trees.FieldText). Shows at (field ∷ drop (at + 1) all) (t ∷ rest)) (sym is_text) (fields.shown none shows))))

    -- the field at a place, shown or left out
    pub field_told : (text : Option code_field) → MatchOption text ((cause : FieldCause) × HasFieldCause world class at cause) (λ found. ((cause : FieldCause) → ¬ HasFieldCause world class at cause) × (trees.view_field found ≡ field_text interface (view_field field)))
        → ShownSoFar (at + 1) (texts ++ option_to_list text)
    field_told None told = subst (ShownSoFar (at + 1)) (sym (append-nil texts)) (field_left told.0 told.1)
    field_told (Some text) told = field_shown text told.0 told.1

  pub fields_end : (at : ℕ) (texts : List code_field) → length all ≤ at → ShownSoFar at texts → Shows 0 all (map trees.view_field texts)
  fields_end at texts past before =
      subst (Shows 0 all) (append-nil (map trees.view_field texts)) (before [] (subst (λ (these : List Field). Shows at these []) (sym (drop_all at all past)) fields.no_more))

-- ---- methods without code

module _ (world : WorldOf) (class : ClassOf) (at : ℕ) where
  pub bare_refused : (found : Option Cause) (cause : Cause) → found ≡ Some cause → IsBareCause world class at found → (refusing : Cause) × HasBareCause world class at refusing
  bare_refused None cause is first = absurd cc
  bare_refused (Some refusing) cause is first = (refusing, first.holds)

  pub bare_free : (found : Option Cause) → found ≡ None → IsBareCause world class at found → (found ≡ None → (name : Name) → ¬ IsSomeAnd (slice_get class.methods at) (λ method. IsUnsaid world class method name)) → IsFreeOfCauses world class at
  bare_free None is none said = record { none = none; said = said refl }
  bare_free (Some refusing) is none said = absurd cc

-- ---- methods

module _ (world : WorldOf) (class : ClassOf) (interface : Bool) (all : List Method) (bodies : List (Option code_body)) where
  abbrev pub ShowsFrom : ℕ → List trees.MethodText → Type 0
  ShowsFrom at texts = ShowsMethods world class interface at (map view_method (drop at all)) (map (option_map trees.view_body) (drop at bodies)) texts

  module _ (at : ℕ) (method : Method) (body : Option code_body) (within : at < length all) (is : method ≡ get_or all at method) (among : at < length bodies) (body_is : body ≡ get_or bodies at body) where
    abbrev IsTold : Option code_method → Type 0
    IsTold text = IsTextOfMethod world class interface at (view_method method) (option_map trees.view_body body) (option_map trees.view_method text)

    here : (texts : List trees.MethodText) → ShowsMethods world class interface at (view_method method ∷ map view_method (drop (at + 1) all)) (option_map trees.view_body body ∷ map (option_map trees.view_body) (drop (at + 1) bodies)) texts → ShowsFrom at texts
    here texts shows =
        subst (λ (these : List Method). ShowsMethods world class interface at (map view_method these) (map (option_map trees.view_body) (drop at bodies)) texts) (sym (rest_is all at method within is))
        (subst (λ (these : List (Option code_body)). ShowsMethods world class interface at (map view_method (method ∷ drop (at + 1) all)) (map (option_map trees.view_body) these) texts) (sym (rest_is bodies at body among body_is)) shows)

    pub method_left : (texts : List code_method) → IsTold None → ShowsFrom (at + 1) (map trees.view_method (reverse texts)) → ShowsFrom at (map trees.view_method (reverse texts))
    method_left texts told shows = here (map trees.view_method (reverse texts)) (methods.absent told shows)

    pub method_shown : (texts : List code_method) (text : code_method) → IsTold (Some text) → ShowsFrom (at + 1) (map trees.view_method (reverse texts)) → ShowsFrom at (map trees.view_method (reverse (texts ++ text ∷ [])))
    method_shown texts text told shows =
        subst (λ (these : List code_method). ShowsFrom at (map trees.view_method these)) (sym (reverse-append texts (text ∷ []))) (here (trees.view_method text ∷ map trees.view_method (reverse texts)) (methods.shown told shows))

    -- the method at a place, shown or left out
    pub method_told : (texts : List code_method) (text : Option code_method) → IsTold text → ShowsFrom (at + 1) (map trees.view_method (reverse texts)) → ShowsFrom at (map trees.view_method (reverse (texts ++ option_to_list text)))
    method_told texts None told shows = subst (λ (these : List code_method). ShowsFrom at (map trees.view_method (reverse these))) (sym (append-nil texts)) (method_left texts told shows)
    method_told texts (Some text) told shows = method_shown texts text told shows

  -- no method is left
  pub methods_end : (at : ℕ) → length all ≤ at → length bodies ≤ at → ShowsFrom at []
  methods_end at past beyond =
      subst (λ (these : List Method). ShowsMethods world class interface at (map view_method these) (map (option_map trees.view_body) (drop at bodies)) []) (sym (drop_all at all past))
      (subst (λ (these : List (Option code_body)). ShowsMethods world class interface at [] (map (option_map trees.view_body) these) []) (sym (drop_all at bodies beyond)) methods.no_more)
