-- What the entries of a pool name: types, fields and methods (JVMS 4.4).
use Rattle.std.specs.Prelude.{◌≡◌, ℕ, List, slice_get, Option, Some, None, IsTrue, IsSomeAnd}
use Rattle.std.specs.Int.{is_in_range}
use Rattle.dj_names.specs.Types.{JType, Boolean, Byte, Char, Short, Int, Long, Float, Double, Class, Array, Descriptor, Field}
use Rattle.dj_names.specs.ClassNames.{IsClassName}
use Rattle.dj_names.specs.Descriptors.{SpellsDescriptor}
use Rattle.dj_names.specs.Types.{view_type, view_descriptor}
use Rattle.dj_pool.specs.declared.entry.Entry.{Entry}
use Rattle.dj_pool.specs.declared.entry.Entry.TheVariants as entry
use Rattle.dj_instructions.specs.declared.pool_names.Member as code_member
use Rattle.dj_instructions.specs.declared.pool_names.Reference as code_reference
use Rattle.dj_pool.specs.PoolFormat.{tag_of, first_of, second_of, text_at, class_at}

-- the value of which this holds, None where it holds of none
abbrev pub Finds : {A : Type 0} → (A → Type 0) → Option A → Type 0
Finds {A = A} Holds None = (x : A) → Holds x → ⊥
Finds Holds (Some x) = Holds x

-- the type that the name of a Class entry stands for: a class by its name, or an array by its descriptor (JVMS 4.4.1)
abbrev pub IsTypeNamed : List ℕ → JType → Type 0
IsTypeNamed units Boolean = ⊥
IsTypeNamed units Byte = ⊥
IsTypeNamed units Char = ⊥
IsTypeNamed units Short = ⊥
IsTypeNamed units Int = ⊥
IsTypeNamed units Long = ⊥
IsTypeNamed units Float = ⊥
IsTypeNamed units Double = ⊥
IsTypeNamed units (Class name) = IsClassName units × (name ≡ units)
IsTypeNamed units (Array element) = SpellsDescriptor units (Field (Array element))

-- the type that the Class entry at an index names
abbrev pub NamesType : List Entry → ℕ → JType → Type 0
NamesType pool index type = IsSomeAnd (class_at pool index) (λ units. IsTypeNamed units type)

-- the descriptor that the Utf8 entry at an index spells
abbrev pub NamesDescriptor : List Entry → ℕ → Descriptor → Type 0
NamesDescriptor pool index descriptor = IsSomeAnd (text_at pool index) (λ units. SpellsDescriptor units descriptor)

-- a name and a descriptor
pub record Member : Type 0 where
  pub name : List ℕ
  pub descriptor : Descriptor

-- the name and the descriptor that the NameAndType entry at an index leads to (JVMS 4.4.6)
pub record NamesMember (pool : List Entry) (index : ℕ) (member : Member) : Type 0 where
  pub name_index : ℕ
  pub descriptor_index : ℕ
  pub there : slice_get pool index ≡ Some (entry.NameAndType name_index descriptor_index)
  pub name : text_at pool name_index ≡ Some member.name
  pub descriptor : NamesDescriptor pool descriptor_index member.descriptor

-- the tag of a Fieldref (9), a Methodref (10) or an InterfaceMethodref (11), and what it leads to
pub record Reference : Type 0 where
  pub tag : ℕ
  pub owner : JType
  pub member : Member

-- what the Fieldref, Methodref or InterfaceMethodref entry at an index leads to (JVMS 4.4.2)
pub record NamesReference (pool : List Entry) (index : ℕ) (reference : Reference) : Type 0 where
  pub found : Entry
  pub there : slice_get pool index ≡ Some found
  pub is_reference : IsTrue (is_in_range 9 11 (tag_of found))
  pub tag : reference.tag ≡ tag_of found
  pub owner : NamesType pool (first_of found) reference.owner
  pub member : NamesMember pool (second_of found) reference.member

-- a name and a descriptor of the code, seen as plain data
abbrev pub view_member : code_member.Member → Member
view_member member = record { name = member.name; descriptor = view_descriptor member.descriptor }

-- a reference of the code, seen as plain data
abbrev pub view_reference : code_reference.Reference → Reference
view_reference reference = record { tag = reference.tag; owner = view_type reference.owner; member = view_member reference.member }
