-- Fields that names mean from a class that a world has whole are the same where other classes run beside its own.
use Rattle.std.proofs.Common.{◌≡◌, ℕ, ◌≤◌, Bool, true, false, not, ◌&&◌, ◌||◌, if◌then◌else◌, length, List, [], ◌∷◌, ◌++◌, filter, find, Option, Some, None, option_and_then, refl, sym, ap, subst, inl, inr, arith}
use mathlib.Core.Path.{fun_ext}
use Rattle.dj_names.specs.declared.header.Header.{Header}
use Rattle.dj_names.specs.Headers.{Name}
use Rattle.dj_names.specs.Types.{JType, Boolean, Byte, Char, Short, Int, Long, Float, Double, Class, Array}
use Rattle.dj_values.specs.Deciding.{is_name, is_some_and}
use Rattle.dj_values.proofs.Deciding.{Decides-name}
use Rattle.dj_meaning.specs.Members.{Field, Members, is_public, is_private, is_protected, is_of_class}
use Rattle.dj_meaning.specs.Visible.{members_of, fields_in, is_in_package, is_none_or, is_below, allows}
use Rattle.dj_meaning.specs.Fields.{KnownField, known, Member, own_field, has_from, once, sole, usable, field_of, selected, named_field}
use Rattle.dj_typing.specs.Sites.{is_whole_type}
use Rattle.dj_widened.specs.Widens.{Widens}
use Rattle.dj_widened.specs.Meant.{IsThroughWhole}
use Rattle.dj_widened.proofs.Paths.{HasHeader, IsWhole, whole_from_test, above_itself, subclass_same, interface_same, inherited_same}
use Rattle.dj_widened.proofs.Orders.{owners_same}

-- ---- members

nothing_left : (others : List Header) (members : List Members) (class : Name) → length members ≤ 0 → members_of others members class ≡ None
nothing_left [] [] class none = refl
nothing_left (header ∷ others) [] class none = refl
nothing_left others (first ∷ members) class none = absurd (omega (arith, none))

before_others : (world others : List Header) (members : List Members) (class : Name) → length members ≤ length world → members_of (world ++ others) members class ≡ members_of world members class
before_others [] others members class most = nothing_left others members class most
before_others (header ∷ world) others [] class most = refl
before_others (header ∷ world) others (first ∷ members) class most = ap (λ rest. if is_name header.name class then Some first else rest) (before_others world others members class (omega (arith, most)))

owner_by : (header : Header) (world : List Header) (class : Name) (first own : Members) (rest : Option Members) (b : Bool) → is_name header.name class ≡ b → (rest ≡ Some own → HasHeader world class)
    → (if b then Some first else rest) ≡ Some own → HasHeader (header ∷ world) class
owner_by header world class first own rest true is further found = (header, inl refl, (Decides-name header.name class).0 is)
owner_by header world class first own rest false is further found = let there = further found in (there.0, inr there.1, there.2)

-- a class that has members has a header
pub owner_header : (world : List Header) (members : List Members) (class : Name) (own : Members) → members_of world members class ≡ Some own → HasHeader world class
owner_header [] members class own found = absurd cc
owner_header (header ∷ world) [] class own found = absurd cc
owner_header (header ∷ world) (first ∷ members) class own found =
    owner_by header world class first own (members_of world members class) (is_name header.name class) refl (owner_header world members class own) found

module _ (world headers : List Header) (wide : Widens world headers) where
  pub members_same : (members : List Members) (class : Name) → length members ≤ length world → members_of headers members class ≡ members_of world members class
  members_same members class most = subst (λ all. members_of all members class ≡ members_of world members class) (sym wide.first) (before_others world wide.others members class most)

  -- ---- access

  below_same : (from : Name) (type : JType) → is_whole_type world type ≡ true → is_below headers from type ≡ is_below world from type
  below_same from Boolean whole = refl
  below_same from Byte whole = refl
  below_same from Char whole = refl
  below_same from Short whole = refl
  below_same from Int whole = refl
  below_same from Long whole = refl
  below_same from Float whole = refl
  below_same from Double whole = refl
  below_same from (Class name) whole = λ i. subclass_same world headers wide name from (whole_from_test world name whole) i || false
  below_same from (Array element) whole = refl

  through_same : (from : Name) (through : Option JType) → IsThroughWhole world through → is_none_or through (is_below headers from) ≡ is_none_or through (is_below world from)
  through_same from None whole = refl
  through_same from (Some type) whole = below_same from type whole

  pub allows_same : (from owner : Name) (flags : ℕ) (through : Option JType) → IsWhole world from → IsThroughWhole world through → allows headers from owner flags through ≡ allows world from owner flags through
  allows_same from owner flags through whole fits = λ i.
      is_public flags
      || (is_private flags && is_name from owner)
      || (not (is_private flags) && is_in_package from owner)
      || (is_protected flags && subclass_same world headers wide from owner whole i && not (interface_same world headers wide from (whole from (above_itself world from)) i)
      && (is_of_class flags || through_same from through fits i))

  -- ---- fields

  module _ (members : List Members) (paired : length members ≤ length world) where
    pub own_fields_same : (name : Name) → own_field headers members name ≡ own_field world members name
    own_fields_same name = fun_ext (λ class. λ i. find (λ (field : Field). is_name field.name name) (fields_in (members_same members class paired i)))

    has_from_same : (name class : Name) → IsWhole world class → has_from headers members name class ≡ has_from world members name class
    has_from_same name class whole =
        fun_ext (λ owner. λ i. is_some_and (own_fields_same name i owner) (λ (field : Field). inherited_same world headers wide class owner field.flags whole i))

    usable_same : (from : Name) (through : Option JType) → IsWhole world from → IsThroughWhole world through → usable headers from through ≡ usable world from through
    usable_same from through whole fits = λ i owner field. if allows_same from owner field.flags through whole fits i then Some (known field) else None

    pub field_same : (from : Name) (through : Option JType) (class name : Name) → IsWhole world from → IsThroughWhole world through → IsWhole world class
        → field_of headers members from through class name ≡ field_of world members from through class name
    field_same from through class name whole fits searched = λ i.
        option_and_then (λ owner. option_and_then (usable_same from through whole fits i owner) (own_fields_same name i owner))
        (sole (filter (has_from_same name class searched i) (once (owners_same world headers wide members name (own_fields_same name) class searched i))))

    pub selected_same : (from name : Name) (type : JType) → IsWhole world from → is_whole_type world type ≡ true → selected headers members from name type ≡ selected world members from name type
    selected_same from name Boolean whole fits = refl
    selected_same from name Byte whole fits = refl
    selected_same from name Char whole fits = refl
    selected_same from name Short whole fits = refl
    selected_same from name Int whole fits = refl
    selected_same from name Long whole fits = refl
    selected_same from name Float whole fits = refl
    selected_same from name Double whole fits = refl
    selected_same from name (Class class) whole fits =
        ap (option_and_then (λ field. Some (Member (Class class) field))) (field_same from (Some (Class class)) class name whole fits (whole_from_test world class fits))
    selected_same from name (Array element) whole fits = refl

    pub named_field_same : (from class name : Name) → IsWhole world from → IsWhole world class → named_field headers members from class name ≡ named_field world members from class name
    named_field_same from class name whole searched = ap (option_and_then (λ (field : KnownField). if field.of_class then Some field else None)) (field_same from None class name whole tt searched)
