-- What the functions that look names up in a pool promise each other.
use Rattle.std.specs.Prelude.{◌≡◌, ℕ, ◌≤◌, List, Some, IsSomeAnd}
use Rattle.dj_names.specs.Types.{JType, Class, Field}
use Rattle.dj_names.specs.ClassNames.{IsClassName}
use Rattle.dj_names.specs.Descriptors.{dimensions, SpellsDescriptor}
use Rattle.dj_pool.specs.declared.entry.Entry.{Entry}
use Rattle.dj_pool.specs.PoolFormat.{text_at}
use Rattle.dj_instructions.specs.PoolNames.{NamesType, NamesDescriptor, Member, NamesMember, Reference}

-- the array type whose descriptor the Utf8 entry at an index spells
pub record NamesArray (pool : List Entry) (index : ℕ) (type : JType) : Type 0 where
  pub spelled : IsSomeAnd (text_at pool index) (λ units. SpellsDescriptor units (Field type))
  pub array : 1 ≤ dimensions type

-- the class whose name the Utf8 entry at an index is
pub record NamesClass (pool : List Entry) (index : ℕ) (type : JType) : Type 0 where
  pub units : List ℕ
  pub named : IsSomeAnd (text_at pool index) (λ these. IsClassName these × (units ≡ these))
  pub class : type ≡ Class units

-- the name and the descriptor at these indices
pub record HasMember (pool : List Entry) (name_index descriptor_index : ℕ) (member : Member) : Type 0 where
  pub name : text_at pool name_index ≡ Some member.name
  pub descriptor : NamesDescriptor pool descriptor_index member.descriptor

-- a reference of this tag, whose class and whose name and type are at these indices
pub record HasReference (pool : List Entry) (of class_index member_index : ℕ) (reference : Reference) : Type 0 where
  pub tag : reference.tag ≡ of
  pub owner : NamesType pool class_index reference.owner
  pub member : NamesMember pool member_index reference.member
