-- What a value of a type is, by the headers of the classes that run (JVMS 2.3, 2.4; JLS 4.3.1, 4.10).
use Rattle.std.specs.Prelude.{◌≡◌, List, IsSome, Option, Some, None}
use Rattle.dj_names.specs.declared.header.Header.{Header}
use Rattle.dj_names.specs.Types as types
use Rattle.dj_names.specs.Types.{JType, StaticType, Of}
use Rattle.dj_names.specs.Assignable.{IsReference, IsSubtype}
use Rattle.dj_values.specs.Values.{RefValue, Value, Int, Long, Null, Ref}
use Rattle.dj_values.specs.Fits.{int_range, IsLengthOf}

-- a type goes to another in some steps, or none, each without a cast
pub data GoesTo (headers : List Header) : JType → JType → Type 0 where
  itself : {type : JType} → GoesTo headers type type
  further : {from next to : JType} → GoesTo headers from next → IsSubtype headers next to → GoesTo headers from to

-- a reference of a type: its class goes there, and its length is one that the class may have
pub record IsObjectOf (headers : List Header) (type : JType) (reference : RefValue) : Type 0 where
  pub wanted : IsReference type
  pub length : IsLengthOf reference.class reference.length
  pub goes : GoesTo headers reference.class type

-- a value is of the sort of a type: an int for a type that is kept as one, a long for long, a reference or null for a class or array; none is a float or double
abbrev pub IsHeld : List Header → JType → Value → Type 0
IsHeld headers type (Int number) = IsSome (int_range type)
IsHeld headers type (Long number) = type ≡ types.Long
IsHeld headers type Null = IsReference type
IsHeld headers type (Ref reference) = IsObjectOf headers type reference

-- a value is null
abbrev pub IsNull : Value → Type 0
IsNull (Int number) = ⊥
IsNull (Long number) = ⊥
IsNull Null = Unit {0}
IsNull (Ref reference) = ⊥

-- a value is one of an expression of this type
abbrev pub IsOf : List Header → StaticType → Value → Type 0
IsOf headers types.Null value = IsNull value
IsOf headers (Of type) value = IsHeld headers type value

-- an expression that has no type has no value
abbrev pub IsOfSome : List Header → Option StaticType → Value → Type 0
IsOfSome headers None value = ⊥
IsOfSome headers (Some type) value = IsOf headers type value
