-- Which values a type has, what can be thrown, and what a method takes (JVMS 2.3, 2.4, 2.10), by the headers of the classes there are.
use Rattle.std.specs.Prelude.{◌≡◌, ℕ, ◌≤◌, ◌==◌, Bool, true, false, not, bit_and, codes, pos, negsuc, ◌≤ℤ◌, List, [], ◌∷◌, Option, Some, None, IsSome, IsSomeAnd, ℤ}
use Rattle.dj_names.specs.declared.header.Header.{Header}
use Rattle.dj_names.specs.Types as types
use Rattle.dj_names.specs.Types.{JType, Boolean, Byte, Char, Short, Float, Double, Class, Array, Of}
use Rattle.dj_names.specs.Headers.{IsSubclass}
use Rattle.dj_names.specs.Assignable.{IsReference, IsAssignable, object_name}
use Rattle.dj_values.specs.Values.{RefValue, Value, Int, Long, Null, Ref}

-- the least and the greatest int of a type that is kept as one
abbrev pub int_range : JType → Option (ℤ × ℤ)
int_range Boolean = Some (pos 0, pos 1)
int_range Byte = Some (negsuc 127, pos 127)
int_range Char = Some (pos 0, pos 65535)
int_range Short = Some (negsuc 32767, pos 32767)
int_range types.Int = Some (negsuc 2147483647, pos 2147483647)
int_range types.Long = None
int_range Float = None
int_range Double = None
int_range (Class name) = None
int_range (Array element) = None

-- the length that a reference of a class may have: 0 where the class isn't an array's
abbrev pub IsLengthOf : JType → ℕ → Type 0
IsLengthOf Boolean length = ⊥
IsLengthOf Byte length = ⊥
IsLengthOf Char length = ⊥
IsLengthOf Short length = ⊥
IsLengthOf types.Int length = ⊥
IsLengthOf types.Long length = ⊥
IsLengthOf Float length = ⊥
IsLengthOf Double length = ⊥
IsLengthOf (Class name) length = length ≡ 0
IsLengthOf (Array element) length = length ≤ 2147483647

-- the name of a class or interface, None where the type is neither
abbrev pub class_of : JType → Option (List ℕ)
class_of Boolean = None
class_of Byte = None
class_of Char = None
class_of Short = None
class_of types.Int = None
class_of types.Long = None
class_of Float = None
class_of Double = None
class_of (Class name) = Some name
class_of (Array element) = None

-- the type of an array's elements, None where the type is no array's
abbrev pub element_of : JType → Option JType
element_of Boolean = None
element_of Byte = None
element_of Char = None
element_of Short = None
element_of types.Int = None
element_of types.Long = None
element_of Float = None
element_of Double = None
element_of (Class name) = None
element_of (Array element) = Some element

-- the type is an array's
abbrev pub IsArray : JType → Type 0
IsArray type = IsSome (element_of type)

-- the type of the innermost elements
abbrev pub innermost : JType → JType
innermost Boolean = Boolean
innermost Byte = Byte
innermost Char = Char
innermost Short = Short
innermost types.Int = types.Int
innermost types.Long = types.Long
innermost Float = Float
innermost Double = Double
innermost (Class name) = Class name
innermost (Array element) = innermost element

-- a reference of a type: its class goes there, and goes to Object, as innermost elements do
pub record IsReferenceOf (headers : List Header) (type : JType) (reference : RefValue) : Type 0 where
  pub wanted : IsReference type
  pub length : IsLengthOf reference.class reference.length
  pub assignable : IsAssignable headers (Of reference.class) type
  pub object : IsAssignable headers (Of reference.class) (Class object_name)
  pub elements : IsReference (innermost reference.class) → IsAssignable headers (Of (innermost reference.class)) (Class object_name)

-- the value is one of the type
abbrev pub IsValueOf : List Header → JType → Value → Type 0
IsValueOf headers type (Int number) = IsSomeAnd (int_range type) (λ range. (range.0 ≤ℤ number) × (number ≤ℤ range.1))
IsValueOf headers type (Long number) = (type ≡ types.Long) × (negsuc 9223372036854775807 ≤ℤ number) × (number ≤ℤ pos 9223372036854775807)
IsValueOf headers type Null = IsReference type
IsValueOf headers type (Ref reference) = IsReferenceOf headers type reference

-- the values are of the types, one each
abbrev pub AreValuesOf : List Header → List JType → List Value → Type 0
AreValuesOf headers [] [] = Unit {0}
AreValuesOf headers [] (value ∷ values) = ⊥
AreValuesOf headers (type ∷ types) [] = ⊥
AreValuesOf headers (type ∷ types) (value ∷ values) = IsValueOf headers type value × AreValuesOf headers types values

-- ---- what can be thrown

-- an object of exactly this class
pub record IsObject (class : List ℕ) (reference : RefValue) : Type 0 where
  pub exact : reference.class ≡ Class class
  pub length : reference.length ≡ 0

-- the class of all that can be thrown (JLS 11.1.1)
abbrev pub throwable_name : List ℕ
throwable_name = codes "java/lang/Throwable"

-- an exception: an object whose class is Throwable, or below it by superclasses
pub record IsThrowable (headers : List Header) (reference : RefValue) : Type 0 where
  pub class : List ℕ
  pub object : IsObject class reference
  pub below : IsSubclass headers class throwable_name

-- ---- what a method takes

-- ACC_STATIC, 0x0008 (JVMS table 4.6-A)
abbrev pub is_static : ℕ → Bool
is_static flags = not (bit_and flags 0x0008 == 0)

-- `this`, the first of the arguments of a method that isn't static
abbrev pub this_of : Bool → List Value → Option Value
this_of true arguments = None
this_of false [] = None
this_of false (first ∷ rest) = Some first

-- the arguments of the parameters, behind `this` where there is one
abbrev pub behind_this : Bool → List Value → List Value
behind_this true arguments = arguments
behind_this false [] = []
behind_this false (first ∷ rest) = rest

-- `this` is a reference whose class goes to the method's, and never null (JLS 15.8.3)
abbrev pub IsThis : List Header → List ℕ → Value → Type 0
IsThis headers class (Int number) = ⊥
IsThis headers class (Long number) = ⊥
IsThis headers class Null = ⊥
IsThis headers class (Ref reference) = IsReferenceOf headers (Class class) reference

-- the arguments of a method of a class, static or not: `this` first where it has one, then one of each parameter's type
abbrev pub AreArguments : List Header → List ℕ → Bool → List JType → List Value → Type 0
AreArguments headers class true parameters arguments = AreValuesOf headers parameters arguments
AreArguments headers class false parameters [] = ⊥
AreArguments headers class false parameters (first ∷ rest) = IsThis headers class first × AreValuesOf headers parameters rest
