-- How a descriptor is spelled, and where units stop being one (JVMS 4.3).
use Rattle.std.specs.Prelude.{◌≡◌, ℕ, ◌+◌, ◌<◌, ◌≤◌, List, ◌++◌, length, take, Option, Some, None, All, IfSome, flat_map, sum_by, codes}
use Rattle.dj_names.specs.Types.{JType, Boolean, Byte, Char, Short, Int, Long, Float, Double, Class, Array, Descriptor, Field, Method}
use Rattle.dj_names.specs.ClassNames.{IsClassName}

-- the field descriptor of a type (JVMS table 4.3-A)
abbrev pub spell_type : JType → List ℕ
spell_type Boolean = codes "Z"
spell_type Byte = codes "B"
spell_type Char = codes "C"
spell_type Short = codes "S"
spell_type Int = codes "I"
spell_type Long = codes "J"
spell_type Float = codes "F"
spell_type Double = codes "D"
spell_type (Class name) = codes "L" ++ name ++ codes ";"
spell_type (Array element) = codes "[" ++ spell_type element

-- the return descriptor of a result, `V` for none (JVMS 4.3.3)
abbrev pub spell_result : Option JType → List ℕ
spell_result None = codes "V"
spell_result (Some type) = spell_type type

-- the field or method descriptor (JVMS 4.3.2, 4.3.3)
abbrev pub spell_descriptor : Descriptor → List ℕ
spell_descriptor (Field type) = spell_type type
spell_descriptor (Method parameters result) = codes "(" ++ flat_map spell_type parameters ++ codes ")" ++ spell_result result

-- how many dimensions a type has, 0 where it is no array
abbrev pub dimensions : JType → ℕ
dimensions Boolean = 0
dimensions Byte = 0
dimensions Char = 0
dimensions Short = 0
dimensions Int = 0
dimensions Long = 0
dimensions Float = 0
dimensions Double = 0
dimensions (Class name) = 0
dimensions (Array element) = 1 + dimensions element

-- how many words a parameter of the type takes (JVMS 4.3.3)
abbrev pub words : JType → ℕ
words Boolean = 1
words Byte = 1
words Char = 1
words Short = 1
words Int = 1
words Long = 2
words Float = 1
words Double = 2
words (Class name) = 1
words (Array element) = 1

-- a class, or one that an array is of, has a class's name
abbrev pub HasClassName : JType → Type 0
HasClassName Boolean = Unit {0}
HasClassName Byte = Unit {0}
HasClassName Char = Unit {0}
HasClassName Short = Unit {0}
HasClassName Int = Unit {0}
HasClassName Long = Unit {0}
HasClassName Float = Unit {0}
HasClassName Double = Unit {0}
HasClassName (Class name) = IsClassName name
HasClassName (Array element) = HasClassName element

-- a type of the machine, with at most 255 dimensions (JVMS 4.3.2)
pub record IsType (type : JType) : Type 0 where
  pub class_name : HasClassName type
  pub dimensions_fit : dimensions type ≤ 255

-- what a field or a method may have, with at most 255 words of parameters (JVMS 4.3.3)
abbrev pub IsDescriptor : Descriptor → Type 0
IsDescriptor (Field type) = IsType type
IsDescriptor (Method parameters result) =
    All IsType parameters × (sum_by words parameters ≤ 255) × IfSome result IsType

-- the units are a descriptor, this one
pub record SpellsDescriptor (units : List ℕ) (descriptor : Descriptor) : Type 0 where
  pub descriptor_is : IsDescriptor descriptor
  pub spelled : spell_descriptor descriptor ≡ units

-- the units are some descriptor, or the front of one
pub record BeginsDescriptor (units : List ℕ) : Type 0 where
  pub rest : List ℕ
  pub descriptor : Descriptor
  pub spells : SpellsDescriptor (units ++ rest) descriptor

-- the units are no descriptor, and the longest prefix that begins one has this length
pub record IsNoDescriptor (units : List ℕ) (at : ℕ) : Type 0 where
  pub unspelled : (descriptor : Descriptor) → ¬ SpellsDescriptor units descriptor
  pub within : at ≤ length units
  pub begins : BeginsDescriptor (take at units)
  pub longest : (longer : ℕ) → at < longer → longer ≤ length units → ¬ BeginsDescriptor (take longer units)
