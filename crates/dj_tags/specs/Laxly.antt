-- Which references the machine lets stand where which are wanted (JVMS 4.10.1.2, isJavaAssignable), and which Java does.
use Rattle.std.specs.Prelude.{List, Contains}
use Rattle.dj_names.specs.declared.header.Header.{Header}
use Rattle.dj_names.specs.Types.{JType, Boolean, Byte, Char, Short, Int, Long, Float, Double, Class, Array}
use Rattle.dj_names.specs.Headers.{Name, names, IsInterface, IsSubclass}
use Rattle.dj_names.specs.Assignable.{above_arrays, IsSubtype}
use Rattle.dj_tags.specs.Goes.{Assignability}

-- no header tells of the class
abbrev pub IsUnknown : List Header → Name → Type 0
IsUnknown headers class = ¬ Contains (names headers) class

-- the class or a superclass of it, at any height, is unknown
pub record HasUnknownAbove (headers : List Header) (class : Name) : Type 0 where
  pub upper : Name
  pub above : IsSubclass headers class upper
  pub unknown : IsUnknown headers upper

-- a primitive type
pub data IsPrimitive : JType → Type 0 where
  boolean : IsPrimitive Boolean
  byte : IsPrimitive Byte
  char : IsPrimitive Char
  short : IsPrimitive Short
  int : IsPrimitive Int
  long : IsPrimitive Long
  float : IsPrimitive Float
  double : IsPrimitive Double

-- a class goes to its superclasses, and anything but an array to an interface; an array goes to what stands above every array, and by its elements.
-- Of a class that isn't known whole nothing is said, so it goes to each class; and each class goes to one that isn't known.
pub data IsJavaAssignable (headers : List Header) : JType → JType → Type 0 where
  subclass : {from to : Name} → IsSubclass headers from to → IsJavaAssignable headers (Class from) (Class to)
  interface : {from to : Name} → IsInterface headers to → IsJavaAssignable headers (Class from) (Class to)
  from_unknown : {from to : Name} → HasUnknownAbove headers from → IsJavaAssignable headers (Class from) (Class to)
  to_unknown : {from to : Name} → IsUnknown headers to → IsJavaAssignable headers (Class from) (Class to)
  array : {element : JType} {to : Name} → Contains above_arrays to → IsJavaAssignable headers (Array element) (Class to)
  same_elements : {element : JType} → IsPrimitive element → IsJavaAssignable headers (Array element) (Array element)
  elements : {from to : JType} → IsJavaAssignable headers from to → IsJavaAssignable headers (Array from) (Array to)

-- what the machine asks of references
abbrev pub Laxly : List Header → Assignability
Laxly headers = IsJavaAssignable headers

-- what Java asks of them
abbrev pub Strictly : List Header → Assignability
Strictly headers = IsSubtype headers
