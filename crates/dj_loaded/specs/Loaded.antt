-- Which classes a machine runs side by side: as it takes them from class files (JVMS 4.1, 5.3.5), with the roots that the language has.
use Rattle.std.specs.Prelude.{◌≡◌, ◌≢◌, ◌&&◌, Bool, List, ◌++◌, Contains}
use Rattle.dj_names.specs.declared.header.Header.{Header}
use Rattle.dj_names.specs.Headers.{Name, names, HasDistinctNames, IsInterface, HasSuperclass, HasInterface, HasParent, IsPath, IsSubclass, Implements}
use Rattle.dj_names.specs.Types.{JType, Class, Array}
use Rattle.dj_names.specs.Assignable.{IsReference, object_name, above_arrays, IsSubtype}
use Rattle.dj_values.specs.Values.{RefValue}
use Rattle.dj_values.specs.Fits.{IsLengthOf, throwable_name}
use Rattle.dj_values.specs.Deciding.{is_reference, is_length_of, is_subtype}

-- no class stands above itself (JVMS 5.3.5)
abbrev pub HasNoCircle : List Header → Type 0
HasNoCircle headers = (class next : Name) (path : List Name) → HasParent headers class next → IsPath (HasParent headers) next path class → ⊥

-- classes that a machine loads side by side: one of each name, and none above itself; what a class lists are interfaces, as far as they have headers, what it extends is none, and an interface extends Object alone (JVMS 4.1, 5.3.5);
-- Object extends and lists nothing, above the other classes that arrays go to stands Object alone (JLS 4.10.3), and Throwable is no interface (JLS 11.1.1)
pub record AreLoadable (headers : List Header) : Type 0 where
  pub distinct : HasDistinctNames headers
  pub no_circle : HasNoCircle headers
  pub listed : (lower upper : Name) → HasInterface headers lower upper → Contains (names headers) upper → IsInterface headers upper
  pub extended : (lower upper : Name) → HasSuperclass headers lower upper → ¬ IsInterface headers upper
  pub interfaces : (class : Name) → IsInterface headers class → HasSuperclass headers class object_name
  pub alone : (lower upper : Name) → IsInterface headers lower → HasSuperclass headers lower upper → upper ≡ object_name
  pub object : (upper : Name) → ¬ HasParent headers object_name upper
  pub arrays : (class upper : Name) → Contains above_arrays class → HasParent headers class upper → upper ≡ object_name
  pub throwable : ¬ IsInterface headers throwable_name

-- the classes that may run: those of the world first, then any that no file gives, such as a machine loads with them
pub record MayRun (world headers : List Header) : Type 0 where
  pub others : List Header
  pub first : headers ≡ world ++ others
  pub loadable : AreLoadable headers

-- a world knows the classes that no program can do without: Object, and Throwable below it
pub record HasCore (world : List Header) : Type 0 where
  pub object : Contains (names world) object_name
  pub throwable : IsSubclass world throwable_name object_name

-- each class but Object names a superclass (JVMS 4.1)
abbrev pub AreRooted : List Header → Type 0
AreRooted headers = (class : Name) → Contains (names headers) class → class ≢ object_name → (upper : Name) × HasSuperclass headers class upper

-- a class is known whole: each class that it leads up to has a header, itself too
abbrev pub IsKnownWhole : List Header → Name → Type 0
IsKnownWhole headers class = (upper : Name) → Implements headers class upper → Contains (names headers) upper

-- ---- what follows

-- the roots are as the language has them: Object stands below nothing (JLS 8.1.4), what goes to Throwable is below it by superclasses (JLS 11.1.1),
-- and no class that arrays go to goes there (JLS 4.10.3)
pub record HasRoots (headers : List Header) : Type 0 where
  pub object : (above : Name) → ¬ HasParent headers object_name above
  pub throwables : (class : Name) → Implements headers class throwable_name → IsSubclass headers class throwable_name
  pub arrays : (class : Name) → Contains above_arrays class → ¬ Implements headers class throwable_name

-- the roots are plain: nothing stands above Object, and above the classes that arrays go to Object alone
pub record HasPlainRoots (headers : List Header) : Type 0 where
  pub object : (upper : Name) → ¬ HasParent headers object_name upper
  pub arrays : (class upper : Name) → Contains above_arrays class → HasParent headers class upper → upper ≡ object_name

-- what an array goes to: its own type; an array type to whose elements its own go, as references; or one of the classes that arrays go to
pub data IsAboveArray (headers : List Header) (element : JType) : JType → Type 0 where
  itself : IsAboveArray headers element (Array element)
  elements : {wider : JType} → IsReference element → IsSubtype headers element wider → IsAboveArray headers element (Array wider)
  root : {class : Name} → Contains above_arrays class → IsAboveArray headers element (Class class)

-- a reference is an instance of a type: its class goes there, and its length is one that the class may have
pub record IsInstanceOf (headers : List Header) (type : JType) (reference : RefValue) : Type 0 where
  pub wanted : IsReference type
  pub length : IsLengthOf reference.class reference.length
  pub assignable : IsSubtype headers reference.class type

-- likewise, as a test
abbrev pub is_instance_of : List Header → JType → RefValue → Bool
is_instance_of headers type reference = is_reference type && is_length_of reference.class reference.length && is_subtype headers reference.class type
