-- What is kept of each text of a pool, so that it is judged once, which entries have two indices, and which bytes are units.
use Rattle.std.specs.Prelude.{◌≡◌, ◌↔◌, ℕ, List, ◌++◌, All, Option, Some, None, Bool, true, false, ◌||◌, ◌&&◌, ◌==◌, nat_le, IsTrue, IsSomeAnd}
use Rattle.std.specs.List.{AllZip}
use Rattle.dj_names.specs.declared.descriptor.Descriptor as code_descriptor
use Rattle.dj_names.specs.Types.{JType, Boolean, Byte, Char, Short, Int, Long, Float, Double, Class, Array, Descriptor, view_descriptor}
use Rattle.dj_names.specs.ClassNames.{IsClassName}
use Rattle.dj_names.specs.Descriptors.{SpellsDescriptor}
use Rattle.dj_names.specs.Utf8.{IsUnit, spell_units}
use Rattle.dj_pool.specs.declared.entry.Entry.{Entry}
use Rattle.dj_pool.specs.declared.parsed.Parsed.{Parsed}
use Rattle.dj_pool.specs.PoolFormat.{text_of}

-- what is read of characters, where there are any: the descriptor that they spell, or None where they spell none
abbrev pub IsReadOf : Option (List ℕ) → Option code_descriptor.Descriptor → Type 0
IsReadOf units None = (descriptor : Descriptor) → IsSomeAnd units (λ these. SpellsDescriptor these descriptor) → ⊥
IsReadOf units (Some read) = IsSomeAnd units (λ these. SpellsDescriptor these (view_descriptor read))

-- whether the entry is a class's name, and the descriptor that it spells
pub record Agrees (entry : Entry) (parsed : Parsed) : Type 0 where
  pub named : IsTrue parsed.is_class_name ↔ IsSomeAnd (text_of entry) IsClassName
  pub descriptor : IsReadOf (text_of entry) parsed.descriptor

-- the table tells of each entry
abbrev pub IsTable : List Entry → List Parsed → Type 0
IsTable entries table = AllZip Agrees entries table

-- whether a type is an array's
abbrev pub is_array_type : JType → Bool
is_array_type Boolean = false
is_array_type Byte = false
is_array_type Char = false
is_array_type Short = false
is_array_type Int = false
is_array_type Long = false
is_array_type Float = false
is_array_type Double = false
is_array_type (Class name) = false
is_array_type (Array element) = true

-- the tags of the entries of two indices
abbrev pub is_pair : ℕ → Bool
is_pair tag = (nat_le 9 tag && nat_le tag 12) || (tag == 18)

-- the bytes begin with units in modified UTF-8, and then comes the rest (JVMS 4.4.7)
pub record BeginsWithUnits (bytes rest : List ℕ) : Type 0 where
  pub units : List ℕ
  pub are_units : All IsUnit units
  pub text : bytes ≡ spell_units units ++ rest
