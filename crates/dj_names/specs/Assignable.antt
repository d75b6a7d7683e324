-- Which types go where, without a cast (JLS 4.10, 5.1.2, 5.1.5, 5.2, 5.3).
use Rattle.std.specs.Prelude.{List, [], ◌∷◌, Contains, codes}
use Rattle.dj_names.specs.declared.header.Header.{Header}
use Rattle.dj_names.specs.Types.{JType, Boolean, Byte, Char, Short, Int, Long, Float, Double, Class, Array, StaticType, Null, Of}
use Rattle.dj_names.specs.Headers.{Name, IsInterface, Implements}

-- the wider number types of a number type (JLS 5.1.2)
abbrev pub wider_types : JType → List JType
wider_types Boolean = []
wider_types Byte = Short ∷ Int ∷ Long ∷ Float ∷ Double ∷ []
wider_types Char = Int ∷ Long ∷ Float ∷ Double ∷ []
wider_types Short = Int ∷ Long ∷ Float ∷ Double ∷ []
wider_types Int = Long ∷ Float ∷ Double ∷ []
wider_types Long = Float ∷ Double ∷ []
wider_types Float = Double ∷ []
wider_types Double = []
wider_types (Class name) = []
wider_types (Array element) = []

-- a class, an interface or an array (JLS 4.3)
abbrev pub IsReference : JType → Type 0
IsReference Boolean = ⊥
IsReference Byte = ⊥
IsReference Char = ⊥
IsReference Short = ⊥
IsReference Int = ⊥
IsReference Long = ⊥
IsReference Float = ⊥
IsReference Double = ⊥
IsReference (Class name) = Unit {0}
IsReference (Array element) = Unit {0}

-- the class above all classes
abbrev pub object_name : Name
object_name = codes "java/lang/Object"

-- the three classes and interfaces above every array (JLS 4.10.3)
abbrev pub above_arrays : List Name
above_arrays = object_name ∷ codes "java/lang/Cloneable" ∷ codes "java/io/Serializable" ∷ []

-- where a type goes without a cast, by the rules of JLS 4.10 and 5.1.2
pub data IsSubtype (headers : List Header) : JType → JType → Type 0 where
  own_type : {type : JType} → IsSubtype headers type type
  wider_number : {from to : JType} → Contains (wider_types from) to → IsSubtype headers from to
  parent : {from to : Name} → Implements headers from to → IsSubtype headers (Class from) (Class to)
  object : {from : Name} → IsInterface headers from → IsSubtype headers (Class from) (Class object_name)
  elements : {from to : JType} → IsReference from → IsSubtype headers from to → IsSubtype headers (Array from) (Array to)
  array : {element : JType} {to : Name} → Contains above_arrays to → IsSubtype headers (Array element) (Class to)

-- a value of this type may be put where that type is wanted; `null` where a reference is
abbrev pub IsAssignable : List Header → StaticType → JType → Type 0
IsAssignable headers Null to = IsReference to
IsAssignable headers (Of from) to = IsSubtype headers from to
