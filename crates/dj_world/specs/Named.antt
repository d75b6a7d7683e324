-- The classes that a class file names (JVMS 4.3, 4.4.1, 4.4.6).
use Rattle.std.specs.Prelude.{◌≡◌, ℕ, ◌⊎◌, List, Option, Some, None, Any, Contains, IsSomeAnd, ◌↔◌}
use Rattle.std.specs.Option.{option_and_then}
use Rattle.std.specs.Ordering.{nat_cmp}
use Rattle.std.specs.Cmp.Lexicographic.{slice_cmp}
use Rattle.std.specs.List.Sorted.{IsStrictlySortedBy}
use Rattle.dj_names.specs.Headers.{Name}
use Rattle.dj_names.specs.Types.{JType, Boolean, Byte, Char, Short, Int, Long, Float, Double, Class, Array, Descriptor, Field, Method, view_type, view_descriptor}
use Rattle.dj_names.specs.ClassNames.{IsClassName}
use Rattle.dj_names.specs.Descriptors.{SpellsDescriptor}
use Rattle.dj_pool.specs.declared.entry.Entry.{Entry}
use Rattle.dj_pool.specs.PoolFormat.{text_at, first_with, second_with}
use Rattle.dj_class.specs.declared.class.ClassFile.{ClassFile}

-- the class that a type names, of an array that of its innermost elements
abbrev pub class_of : JType → Option Name
class_of Boolean = None
class_of Byte = None
class_of Char = None
class_of Short = None
class_of Int = None
class_of Long = None
class_of Float = None
class_of Double = None
class_of (Class name) = Some name
class_of (Array element) = class_of element

-- a descriptor names a class
abbrev pub NamesClass : Descriptor → Name → Type 0
NamesClass (Field type) name = class_of type ≡ Some name
NamesClass (Method parameters result) name = Any (λ type. class_of type ≡ Some name) parameters ⊎ (option_and_then class_of result ≡ Some name)

-- the units are a descriptor, and it names a class
pub record IsInDescriptor (units : List ℕ) (name : Name) : Type 0 where
  pub descriptor : Descriptor
  pub spelled : SpellsDescriptor units descriptor
  pub names_class : NamesClass descriptor name

-- the units are a class's name, this one, or those of an array that names it
abbrev pub IsInClassText : List ℕ → Name → Type 0
IsInClassText units name = (IsClassName units × (units ≡ name)) ⊎ IsInDescriptor units name

-- a Class entry names a class (JVMS 4.4.1)
abbrev pub IsInClassEntry : List Entry → Entry → Name → Type 0
IsInClassEntry pool entry name = IsSomeAnd (option_and_then (text_at pool) (first_with 7 entry)) (λ units. IsInClassText units name)

-- a NameAndType entry names a class (JVMS 4.4.6)
abbrev pub IsInNameAndType : List Entry → Entry → Name → Type 0
IsInNameAndType pool entry name = IsSomeAnd (option_and_then (text_at pool) (second_with 12 entry)) (λ units. IsInDescriptor units name)

-- an entry names a class
abbrev pub IsInEntry : List Entry → Entry → Name → Type 0
IsInEntry pool entry name = IsInClassEntry pool entry name ⊎ IsInNameAndType pool entry name

-- a class file names a class: it is its own, or stands in an entry or in the descriptor of a member
pub data IsNamed (class : ClassFile) (name : Name) : Type 0 where
  own : class.this_class ≡ name → IsNamed class name
  in_pool : Any (λ entry. IsInEntry class.pool entry name) class.pool → IsNamed class name
  in_field : Any (λ field. class_of (view_type field.descriptor) ≡ Some name) class.fields → IsNamed class name
  in_method : Any (λ method. NamesClass (view_descriptor method.descriptor) name) class.methods → IsNamed class name

-- the classes that a class file names, in rising order of units
pub record AreNamed (class : ClassFile) (named : List Name) : Type 0 where
  pub rising : IsStrictlySortedBy (slice_cmp nat_cmp) named
  pub exact : (name : Name) → Contains named name ↔ IsNamed class name
