-- The field that a name means (JLS 8.3, 15.11.1), and what is known of it.
use Rattle.std.specs.Prelude.{ℕ, zero, suc, Bool, ◌&&◌, List, [], ◌∷◌, filter, find, flat_map, is_some, Option, Some, None, option_and_then, codes, if◌then◌else◌}
use Rattle.std.specs.List.{list_any}
use Rattle.dj_names.specs.declared.header.Header.{Header}
use Rattle.dj_names.specs.declared.members.Constant.{Constant}
use Rattle.dj_names.specs.Headers.{Name}
use Rattle.dj_names.specs.Types as types
use Rattle.dj_names.specs.Types.{JType, Boolean, Byte, Char, Short, Int, Long, Float, Double, Class, Array}
use Rattle.dj_values.specs.Deciding.{is_name, is_some_and}
use Rattle.dj_kinds.specs.Search.{enough}
use Rattle.dj_meaning.specs.Members.{Field, Members, is_of_class, is_final}
use Rattle.dj_meaning.specs.Visible.{members_of, fields_in, parents, is_inherited, allows}

-- the first field of this name that a class declares
abbrev pub own_field : List Header → List Members → Name → Name → Option Field
own_field headers members name class = find (λ (field : Field). is_name field.name name) (fields_in (members_of headers members class))

-- the classes whose field of this name a class has: it hides those above it by one of its own (8.3)
abbrev pub field_owners : ℕ → List Header → List Members → Name → Name → List Name
field_owners zero headers members name class = []
field_owners (suc most) headers members name class =
    if is_some (own_field headers members name class) then class ∷ [] else flat_map (field_owners most headers members name) (parents headers class)

-- a class has the field of this class by inheritance
abbrev pub has_from : List Header → List Members → Name → Name → Name → Bool
has_from headers members name class owner = is_some_and (own_field headers members name owner) (λ (field : Field). is_inherited headers class owner field.flags)

-- each name once
abbrev pub once : List Name → List Name
once [] = []
once (first ∷ rest) = if list_any (is_name first) rest then once rest else first ∷ once rest

-- the only one
abbrev pub sole : {A : Type 0} → List A → Option A
sole [] = None
sole (one ∷ []) = Some one
sole (one ∷ other ∷ rest) = None

-- what is known of a field: whether it is static, its type, and the value of one that is a constant variable (4.12.4); of final fields
-- with a constant only static ones count, since the constant of another one says nothing (JVMS 4.7.2)
pub record KnownField : Type 0 where
  pub of_class : Bool
  pub type : JType
  pub constant : Option Constant

-- of a field
abbrev pub known : Field → KnownField
known field = record {
  of_class = is_of_class field.flags;
  type = field.type;
  constant = if is_of_class field.flags && is_final field.flags then field.constant else None;
}

-- a field that may be used here
abbrev pub usable : List Header → Name → Option JType → Name → Field → Option KnownField
usable headers from through owner field = if allows headers from owner field.flags through then Some (known field) else None

-- the field that a name means in a class, used in the class `from` through an expression of a type or none: the only one that the class has, where it may be used
abbrev pub field_of : List Header → List Members → Name → Option JType → Name → Name → Option KnownField
field_of headers members from through class name =
    option_and_then (λ owner. option_and_then (usable headers from through owner) (own_field headers members name owner))
    (sole (filter (has_from headers members name class) (once (field_owners (enough headers) headers members name class))))

-- what a name selects of an expression: the length of an array, or a field through the expression's type
pub data Selection : Type 0 where
  Length : Selection
  Member : JType → KnownField → Selection

-- what a name selects of an expression of this type (15.11.1, 10.7)
abbrev pub selected : List Header → List Members → Name → Name → JType → Option Selection
selected headers members from name Boolean = None
selected headers members from name Byte = None
selected headers members from name Char = None
selected headers members from name Short = None
selected headers members from name types.Int = None
selected headers members from name types.Long = None
selected headers members from name Float = None
selected headers members from name Double = None
selected headers members from name (Class class) = option_and_then (λ field. Some (Member (Class class) field)) (field_of headers members from (Some (Class class)) class name)
selected headers members from name (Array element) = if is_name name (codes "length") then Some Length else None

-- a static field that is named by its class
abbrev pub named_field : List Header → List Members → Name → Name → Name → Option KnownField
named_field headers members from class name =
    option_and_then (λ (field : KnownField). if field.of_class then Some field else None) (field_of headers members from None class name)
