-- Whether a class has another method of the name, by its members.
use Rattle.std.proofs.Common.{◌≡◌, ◌⊎◌, ℕ, zero, suc, Bool, true, false, not, ◌&&◌, ◌||◌, if◌then◌else◌, List, [], ◌∷◌, map, Option, Some, None, slice_get, refl, sym, ap, ◌∙◌, inl, inr}
use Rattle.std.specs.Prelude.{◌↔◌, IsTrue, IfSome, filter}
use Rattle.std.specs.List.{list_any}
use Rattle.std.proofs.lemmas.Bool.{false≢true, cases_Bool, and_parts}
use Rattle.std.proofs.lemmas.Option.{none-some, same_Some}
use Rattle.dj_names.specs.declared.header.Header.{Header}
use Rattle.dj_names.specs.declared.members.ClassMembers.{ClassMembers}
use Rattle.dj_names.specs.declared.members.MethodHead.{MethodHead}
use Rattle.dj_names.specs.Headers.{Name, names, HasDistinctNames}
use Rattle.dj_names.specs.Types.{JType}
use Rattle.dj_values.specs.Deciding.{is_name}
use Rattle.dj_values.proofs.Deciding.{Decides-name}
use Rattle.dj_kinds.proofs.OwnLemmas.{one_place}
use Rattle.dj_members.specs.Tables.{method_names, IsNamed}
use Rattle.dj_members.specs.Picks.{IsPickedAt}
use Rattle.dj_meaning.specs.Members.{Method, Members, view_method, view_members}
use Rattle.dj_meaning.specs.Visible.{members_of, methods_in}
use Rattle.dj_meaning.specs.Calls.{is_seen}
use Rattle.dj_static.proofs.TypeLemmas.{Decides-types}
use Rattle.dj_static.proofs.HeldLemmas.{Sought, no_members, members_at, sought, members_is}
use Rattle.dj_alone.specs.Rivals.{differs, is_rival, has, are_same}

-- what a relation tells is the test
pub same-told : (first second : List JType) (told : Bool) → IsTrue told ↔ (first ≡ second) → told ≡ are_same first second
same-told first second told is = by told (are_same first second) refl refl
  where
    by : (one other : Bool) → told ≡ one → are_same first second ≡ other → one ≡ other
    by true true a b = refl
    by false false a b = refl
    by true false a b = absurd (false≢true (sym b ∙ (Decides-types first second).1 (is.0 a)))
    by false true a b = absurd (false≢true (sym a ∙ is.1 ((Decides-types first second).0 b)))

-- a method of the name stands there
record NamedAt (methods : List MethodHead) (name : Name) : Type 0 where
  at : ℕ
  is : slice_get (method_names methods) at ≡ Some name

-- a class has a method of the name, as one among the members of all classes
pub record Held (headers : List Header) (members : List ClassMembers) (name class : Name) : Type 0 where
  pub place : ℕ
  pub there : slice_get (names headers) place ≡ Some class
  pub number : ℕ
  pub is : IsNamed members (record { class = place; method = true; number = number }) name

module _ (headers : List Header) (start name : Name) (types : List JType) (class : Name) where
  abbrev named : Method → Bool
  named method = is_name method.name name && is_seen headers start class method

  abbrev rival : MethodHead → Bool
  rival method = is_rival headers start types class (view_method method)

  -- some of the class's methods of the name that are seen differ
  abbrev pub some-differ : List MethodHead → Bool
  some-differ methods = list_any (differs types) (filter named (map view_method methods))

  -- ---- no class

  pub has-nowhere : (members : List ClassMembers) → ((at : ℕ) → ¬ (slice_get (names headers) at ≡ Some class)) → has headers (map view_members members) start name types class ≡ false
  has-nowhere members nowhere = by (members_of headers (map view_members members) class) (sought headers members class)
    where
      by : (found : Option Members) → Sought headers members class found → list_any (differs types) (filter named (methods_in found)) ≡ false
      by _ (no_members none) = refl
      by _ (members_at at declared is) = absurd (nowhere at is.named)

  pub has-none : (members : List ClassMembers) (place : ℕ) → HasDistinctNames headers → slice_get (names headers) place ≡ Some class → None ≡ slice_get members place → has headers (map view_members members) start name types class ≡ false
  has-none members place distinct at none = by (members_of headers (map view_members members) class) (sought headers members class)
    where
      by : (found : Option Members) → Sought headers members class found → list_any (differs types) (filter named (methods_in found)) ≡ false
      by _ (no_members nothing) = refl
      by _ (members_at other declared is) = absurd (none-some declared (none ∙ ap (λ k. slice_get members k) (one_place headers class distinct place other at is.named) ∙ is.there))

  -- ---- its methods

  pub has-here : (members : List ClassMembers) (place : ℕ) (own : ClassMembers) → HasDistinctNames headers → slice_get (names headers) place ≡ Some class → slice_get members place ≡ Some own → has headers (map view_members members) start name types class ≡ some-differ own.methods
  has-here members place own distinct at there = ap (λ found. list_any (differs types) (filter named (methods_in found))) (members_is headers members distinct start name types class place own (record { named = at; there = there }))

  -- one more method
  next : (method : MethodHead) (rest : List MethodHead) → some-differ (method ∷ rest) ≡ (if named (view_method method) then (differs types (view_method method) || some-differ rest) else some-differ rest)
  next method rest = by (named (view_method method))
    where
      by : (test : Bool) → list_any (differs types) (if test then view_method method ∷ filter named (map view_method rest) else filter named (map view_method rest)) ≡ (if test then (differs types (view_method method) || some-differ rest) else some-differ rest)
      by true = refl
      by false = refl

  -- none is a rival
  pub none-differ : (methods : List MethodHead) → ((at : ℕ) → slice_get (method_names methods) at ≡ Some name → IfSome (slice_get methods at) (λ method. rival method ≡ false)) → some-differ methods ≡ false
  none-differ [] none = refl
  none-differ (method ∷ rest) none = next method rest ∙ by (is_name method.name name) (is_seen headers start class (view_method method)) refl refl (none-differ rest (λ at. none (suc at)))
    where
      by : (named_so seen : Bool) → is_name method.name name ≡ named_so → is_seen headers start class (view_method method) ≡ seen → some-differ rest ≡ false
          → (if named_so && seen then (differs types (view_method method) || some-differ rest) else some-differ rest) ≡ false
      by true true at is others =
          let fails : differs types (view_method method) && is_seen headers start class (view_method method) ≡ false = none 0 (ap Some ((Decides-name method.name name).0 at)) in
          let same : differs types (view_method method) ≡ false = quiet (differs types (view_method method)) (sym (ap (λ seen. differs types (view_method method) && seen) is) ∙ fails) in
          ap (λ test. test || some-differ rest) same ∙ others
        where
          quiet : (test : Bool) → test && true ≡ false → test ≡ false
          quiet true e = e
          quiet false e = refl
      by true false at is others = others
      by false seen at is others = others

  -- one is
  pub one-differs : (methods : List MethodHead) (at : ℕ) → slice_get (method_names methods) at ≡ Some name → ¬ IfSome (slice_get methods at) (λ method. rival method ≡ false) → some-differ methods ≡ true
  one-differs [] zero is picked = absurd (none-some name is)
  one-differs [] (suc at) is picked = absurd (none-some name is)
  one-differs (method ∷ rest) zero is picked = next method rest ∙ by (cases_Bool (rival method))
    where
      by : (rival method ≡ true) ⊎ (rival method ≡ false) → (if named (view_method method) then (differs types (view_method method) || some-differ rest) else some-differ rest) ≡ true
      by (inl so) =
          let parts = and_parts (differs types (view_method method)) (is_seen headers start class (view_method method)) so in
          let same : is_name method.name name ≡ true = (Decides-name method.name name).1 (same_Some method.name name is) in
          ap (λ test. if test && is_seen headers start class (view_method method) then (differs types (view_method method) || some-differ rest) else some-differ rest) same
          ∙ ap (λ test. if test then (differs types (view_method method) || some-differ rest) else some-differ rest) parts.1
          ∙ ap (λ test. test || some-differ rest) parts.0
      by (inr not_so) = absurd (picked not_so)
  one-differs (method ∷ rest) (suc at) is picked = next method rest ∙ by (named (view_method method)) (differs types (view_method method)) (one-differs rest at is picked)
    where
      by : (test other : Bool) → some-differ rest ≡ true → (if test then (other || some-differ rest) else some-differ rest) ≡ true
      by true true others = refl
      by true false others = others
      by false other others = others

  -- ---- a method of the name, where there is one

  some-named : (methods : List MethodHead) → some-differ methods ≡ true → NamedAt methods name
  some-named [] is = absurd (false≢true is)
  some-named (method ∷ rest) is = by (is_name method.name name) refl (sym (next method rest) ∙ is) (some-named rest)
    where
      by : (same : Bool) → is_name method.name name ≡ same → (if same && is_seen headers start class (view_method method) then (differs types (view_method method) || some-differ rest) else some-differ rest) ≡ true
          → (some-differ rest ≡ true → NamedAt rest name) → NamedAt (method ∷ rest) name
      by true at is later = record { at = 0; is = ap Some ((Decides-name method.name name).0 at) }
      by false at is later = let one = later is in record { at = suc one.at; is = one.is }

  pub has-held : (members : List ClassMembers) → has headers (map view_members members) start name types class ≡ true → Held headers members name class
  has-held members is = by (members_of headers (map view_members members) class) (sought headers members class) is
    where
      by : (found : Option Members) → Sought headers members class found → list_any (differs types) (filter named (methods_in found)) ≡ true → Held headers members name class
      by _ (no_members none) is = absurd (false≢true is)
      by _ (members_at at declared there) is =
          let one = some-named declared.methods is in record { place = at; there = there.named; number = one.at; is = record { own = declared; class = there.there; named = one.is } }

  -- ---- what is picked

  pub told-by : (methods : List MethodHead) (own : List Name) (all : Bool) → own ≡ method_names methods
      → (IsTrue all → (at : ℕ) → slice_get own at ≡ Some name → IfSome (slice_get methods at) (λ method. rival method ≡ false))
      → (all ≡ false → IsPickedAt own name (λ at. ¬ IfSome (slice_get methods at) (λ method. rival method ≡ false))) → not all ≡ some-differ methods
  told-by methods own true same every other = sym (none-differ methods (λ at is. every refl at (ap (λ names. slice_get names at) same ∙ is)))
  told-by methods own false same every other =
      let one = other refl in sym (one-differs methods one.at (ap (λ names. slice_get names one.at) (sym same) ∙ one.named) one.picked)
