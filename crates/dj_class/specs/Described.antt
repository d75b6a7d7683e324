-- The class that a class file describes, and when bytes are one.
use Rattle.std.specs.Prelude.{◌≡◌, ◌⊎◌, ℕ, List, [], ◌∷◌, length, slice_get, Option, Some, None, IsSomeAnd}
use Rattle.std.specs.List.{AllZip}
use Rattle.std.specs.Option.{option_and_then, option_to_list}
use Rattle.std.specs.Prelude.{codes}
use Rattle.dj_layout.specs.declared.fault.Fault.{Fault}
use Rattle.dj_layout.specs.Whole as whole
use Rattle.dj_layout.specs.Whole.{IsWhole}
use Rattle.dj_names.specs.declared.members.Constant.{Constant}
use Rattle.dj_names.specs.declared.members.Constant.TheVariants as constant
use Rattle.dj_names.specs.Headers.{Name}
use Rattle.dj_names.specs.Types.{JType, Descriptor, Field}
use Rattle.dj_names.specs.Descriptors.{SpellsDescriptor}
use Rattle.dj_pool.specs.declared.fault.BrokenKind.{BrokenKind}
use Rattle.dj_pool.specs.declared.fault.BrokenKind.TheVariants as kind
use Rattle.dj_class.specs.Members.{RawMember}
use Rattle.dj_pool.specs.SharedParts.{u2, counted}
use Rattle.dj_pool.specs.declared.entry.Entry.{Entry}
use Rattle.dj_pool.specs.declared.entry.Entry.TheVariants as entry
use Rattle.dj_pool.specs.PoolFormat.{text_at, class_at}
use Rattle.dj_class.specs.FileFormat.{Raw, LeadsTo, index_of, file, sound}
use Rattle.dj_pool.specs.Attributes.{contents}

-- a field, its name by its units
pub record FieldOf : Type 0 where
  pub flags : ℕ
  pub name : List ℕ
  pub descriptor : JType
  pub constant : Option Constant

-- a method, the classes that it declares to throw, and the content of its Code
pub record MethodOf : Type 0 where
  pub flags : ℕ
  pub name : List ℕ
  pub descriptor : Descriptor
  pub thrown : List Name
  pub code : Option (List ℕ)

-- a class as its file describes it
pub record ClassOf : Type 0 where
  pub minor : ℕ
  pub major : ℕ
  pub pool : List Entry
  pub flags : ℕ
  pub this_class : Name
  pub super_class : Option Name
  pub interfaces : List Name
  pub fields : List FieldOf
  pub methods : List MethodOf

-- the constant of an entry, the units of a text by the pool
abbrev pub constant_of : List Entry → Entry → Option Constant
constant_of pool entry.Skip = None
constant_of pool (entry.Utf8 units) = None
constant_of pool (entry.Integer number) = Some (constant.Int number)
constant_of pool (entry.Float bits) = Some (constant.Float bits)
constant_of pool (entry.Long number) = Some (constant.Long number)
constant_of pool (entry.Double bits) = Some (constant.Double bits)
constant_of pool (entry.Class name) = None
constant_of pool (entry.Text units) = option_and_then (λ found. Some (constant.Text found)) (text_at pool units)
constant_of pool (entry.FieldRef class member) = None
constant_of pool (entry.MethodRef class member) = None
constant_of pool (entry.InterfaceMethodRef class member) = None
constant_of pool (entry.NameAndType name descriptor) = None
constant_of pool (entry.MethodHandle kind reference) = None
constant_of pool (entry.MethodType descriptor) = None
constant_of pool (entry.InvokeDynamic bootstrap member) = None

-- the constant that the one ConstantValue leads to, None where there is none (JVMS 4.7.2)
abbrev pub IsConstant : List Entry → List (List ℕ) → Option Constant → Type 0
IsConstant pool [] found = found ≡ None
IsConstant pool (content ∷ []) found = found ≡ option_and_then (constant_of pool) (slice_get pool (index_of content))
IsConstant pool (content ∷ other ∷ others) found = ⊥

-- the classes of the one Exceptions, none where there is none (JVMS 4.7.5)
abbrev pub IsThrown : List Entry → List (List ℕ) → List Name → Type 0
IsThrown pool [] thrown = thrown ≡ []
IsThrown pool (content ∷ []) thrown = (indices : List ℕ) × IsWhole (counted u2) content indices × AllZip (LeadsTo pool) indices thrown
IsThrown pool (content ∷ other ∷ others) thrown = ⊥

-- the field that a field_info describes (JVMS 4.5)
pub record DescribesField (pool : List Entry) (member : RawMember) (field : FieldOf) : Type 0 where
  pub flags : field.flags ≡ member.flags
  pub name : text_at pool member.name ≡ Some field.name
  pub descriptor : IsSomeAnd (text_at pool member.descriptor) (λ units. SpellsDescriptor units (Field field.descriptor))
  pub constant : IsConstant pool (contents pool (codes "ConstantValue") member.attributes) field.constant

-- the method that a method_info describes (JVMS 4.6, 4.7.3, 4.7.5)
pub record DescribesMethod (pool : List Entry) (member : RawMember) (method : MethodOf) : Type 0 where
  pub flags : method.flags ≡ member.flags
  pub name : text_at pool member.name ≡ Some method.name
  pub descriptor : IsSomeAnd (text_at pool member.descriptor) (λ units. SpellsDescriptor units method.descriptor)
  pub code : contents pool (codes "Code") member.attributes ≡ option_to_list method.code
  pub thrown : IsThrown pool (contents pool (codes "Exceptions") member.attributes) method.thrown

-- the class that a class file describes
pub record DescribesClass (raw : Raw) (class : ClassOf) : Type 0 where
  pub minor : class.minor ≡ raw.front.minor
  pub major : class.major ≡ raw.front.major
  pub pool : class.pool ≡ raw.front.pool
  pub flags : class.flags ≡ raw.rest.own.flags
  pub this_class : LeadsTo raw.front.pool raw.rest.own.this_class class.this_class
  pub super_class : class.super_class ≡ class_at raw.front.pool raw.rest.own.super_class
  pub interfaces : AllZip (LeadsTo raw.front.pool) raw.rest.listed.interfaces class.interfaces
  pub fields : AllZip (DescribesField raw.front.pool) raw.rest.listed.fields class.fields
  pub methods : AllZip (DescribesMethod raw.front.pool) raw.rest.listed.methods class.methods

-- the bytes are a class file, one of a major version from `oldest` to 52, and this is its class
pub record SpellsClass (bytes : List ℕ) (oldest : ℕ) (class : ClassOf) : Type 0 where
  pub raw : Raw
  pub laid_out : IsWhole (file oldest) bytes raw
  pub lawful : (sound oldest raw.front.pool).Fits raw
  pub described : DescribesClass raw class

-- the fault of the first pass that has one: of the layout, or of what is asked of the pool and then of the rest
abbrev pub HasFault : List ℕ → ℕ → Fault BrokenKind → Type 0
HasFault bytes oldest fault =
    whole.FirstFault (file oldest) kind.Trailing bytes fault
    ⊎ ((raw : Raw) × IsWhole (file oldest) bytes raw × (sound oldest raw.front.pool).Halts (length bytes) bytes fault)
