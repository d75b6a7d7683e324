-- A class file as layouts of the same bytes: its parts front to back, and what is asked of them (JVMS 4.1, 4.5 to 4.7).
use Rattle.std.specs.Prelude.{◌≡◌, ◌⊎◌, ◌↔◌, ℕ, List, [], length, ◌&&◌, ◌==◌, nat_le, if◌then◌else◌, Option, Some, None, IsSome, IsSomeAnd, IsBitSet, codes}
use Rattle.std.specs.Int.{w16, from_be_bytes}
use Rattle.std.specs.Str.{bytes_eq}
use Rattle.dj_layout.specs.Layout.{Layout}
use Rattle.dj_layout.specs.Parts.{number, exactly, headed, tested}
use Rattle.dj_layout.specs.Passes.{asked, again, sequence}
use Rattle.dj_layout.specs.Whole.{IsWhole}
use Rattle.dj_names.specs.Types.{JType, Boolean, Byte, Char, Short, Int, Long, Float, Double, Class, Array, Field}
use Rattle.dj_names.specs.Assignable.{object_name}
use Rattle.dj_names.specs.ClassNames.{IsClassName}
use Rattle.dj_names.specs.Descriptors.{SpellsDescriptor}
use Rattle.dj_pool.specs.declared.fault.BrokenKind.{BrokenKind}
use Rattle.dj_pool.specs.declared.fault.BrokenKind.TheVariants as kind
use Rattle.dj_pool.specs.declared.raw.Attribute.{Attribute}
use Rattle.dj_class.specs.Members.{RawMember, member}
use Rattle.dj_pool.specs.SharedParts.{u2, counted, attribute}
use Rattle.dj_pool.specs.declared.entry.Entry.{Entry}
use Rattle.dj_class.specs.declared.front.Front.{Front}
use Rattle.dj_pool.specs.Attributes.{contents}
use Rattle.dj_pool.specs.PoolFormat.{HasTag, IsFieldText, IsMethodText, IsClassIndex, text_at, class_at, pool}

-- the flags of a class, and the indices of the class and its superclass
pub record Own : Type 0 where
  pub flags : ℕ
  pub this_class : ℕ
  pub super_class : ℕ

-- the interfaces, by their indices, the members and the attributes of a class
pub record Listed : Type 0 where
  pub interfaces : List ℕ
  pub fields : List RawMember
  pub methods : List RawMember
  pub attributes : List Attribute

-- what follows the pool
pub record Rest : Type 0 where
  pub own : Own
  pub listed : Listed

-- a class file by its indices
pub record Raw : Type 0 where
  pub front : Front
  pub rest : Rest

-- ---- the first pass: the layout alone

-- the number that every class file begins with, 0xCAFEBABE
abbrev pub magic : Layout BrokenKind ℕ
magic = tested (number 4 kind.Short) (λ x. x == 3405691582) kind.Magic

-- a major version from `oldest` to 52 (JVMS 4.1)
abbrev pub major : ℕ → Layout BrokenKind ℕ
major oldest = tested u2 (λ x. nat_le oldest x && nat_le x 52) kind.Version

-- the minor and the major version, and the pool, of which more is asked where it is given
abbrev pub front : ℕ → Option (List Entry) → Layout BrokenKind Front
front oldest given =
    headed (λ f. f.minor) u2 (λ minor.
    headed (λ f. f.major) (major oldest) (λ major.
    headed (λ f. f.pool) (pool given) (λ pool.
    exactly (record { minor = minor; major = major; pool = pool }))))

-- flags, class and superclass
abbrev pub plain_own : Layout BrokenKind Own
plain_own =
    headed (λ o. o.flags) u2 (λ flags.
    headed (λ o. o.this_class) u2 (λ this_class.
    headed (λ o. o.super_class) u2 (λ super_class.
    exactly (record { flags = flags; this_class = this_class; super_class = super_class }))))

-- interfaces, fields, methods and attributes
abbrev pub plain_listed : Layout BrokenKind Listed
plain_listed =
    headed (λ l. l.interfaces) (counted u2) (λ interfaces.
    headed (λ l. l.fields) (counted member) (λ fields.
    headed (λ l. l.methods) (counted member) (λ methods.
    headed (λ l. l.attributes) (counted attribute) (λ attributes.
    exactly (record { interfaces = interfaces; fields = fields; methods = methods; attributes = attributes })))))

-- what follows the pool of a file, of such parts
abbrev pub rest_of : Layout BrokenKind Own → Layout BrokenKind Listed → Layout BrokenKind Rest
rest_of own listed =
    headed (λ r. r.own) own (λ first.
    headed (λ r. r.listed) listed (λ others.
    exactly (record { own = first; listed = others })))

-- what follows the pool of a file
abbrev pub plain_rest : Layout BrokenKind Rest
plain_rest = rest_of plain_own plain_listed

-- a class file with such a front and such a rest
abbrev pub file_of : Layout BrokenKind Front → Layout BrokenKind Rest → Layout BrokenKind Raw
file_of front rest =
    headed (λ _. 3405691582) magic (λ _.
    headed (λ f. f.front) front (λ start.
    headed (λ f. f.rest) rest (λ others.
    exactly (record { front = start; rest = others }))))

-- the layout of a class file, front to back (JVMS 4.1)
abbrev pub file : ℕ → Layout BrokenKind Raw
file oldest = file_of (front oldest None) plain_rest

-- ---- what is asked of the rest

-- an interface is abstract and not final, and no class is both (JVMS 4.1)
pub record HasClassFlags (flags : ℕ) : Type 0 where
  pub interface_abstract : IsBitSet flags 9 → IsBitSet flags 10
  pub interface_not_final : IsBitSet flags 9 → ¬ IsBitSet flags 4
  pub not_both : ¬ (IsBitSet flags 10 × IsBitSet flags 4)

-- the index leads to a class of this name
abbrev pub LeadsTo : List Entry → ℕ → List ℕ → Type 0
LeadsTo pool index name = class_at pool index ≡ Some name

-- java/lang/Object alone may have no superclass, and it is the superclass of each interface (JVMS 4.1)
pub record IsSuperIndex (pool : List Entry) (flags this_class index : ℕ) : Type 0 where
  pub some_class : ((index ≡ 0) × LeadsTo pool this_class object_name) ⊎ IsClassIndex pool index
  pub of_interface : IsBitSet flags 9 → LeadsTo pool index object_name

-- at most one of ACC_PUBLIC, ACC_PRIVATE and ACC_PROTECTED (JVMS 4.5, 4.6)
pub record HasOneAccess (flags : ℕ) : Type 0 where
  pub not_public_private : ¬ (IsBitSet flags 0 × IsBitSet flags 1)
  pub not_public_protected : ¬ (IsBitSet flags 0 × IsBitSet flags 2)
  pub not_private_protected : ¬ (IsBitSet flags 1 × IsBitSet flags 2)

-- a field isn't final and volatile (JVMS 4.5)
pub record HasFieldFlags (flags : ℕ) : Type 0 where
  pub one_access : HasOneAccess flags
  pub not_both : ¬ (IsBitSet flags 4 × IsBitSet flags 6)

-- there is a text at the index
abbrev pub IsTextIndex : List Entry → ℕ → Type 0
IsTextIndex pool index = IsSome (text_at pool index)

-- an attribute whose name is a text
abbrev pub named : List Entry → Layout BrokenKind Attribute
named pool = asked attribute (λ a. IsTextIndex pool a.name) kind.Index

-- attributes behind their number, each as those before it ask
abbrev pub counted_in_turn : (List Attribute → Layout BrokenKind Attribute) → Layout BrokenKind (List Attribute)
counted_in_turn next = headed length u2 (λ n. sequence attribute.spell (λ xs. length xs == n) next)

-- the tag that the constant of a field of this type has, where it may have one (JVMS table 4.7.2-A)
abbrev pub constant_tag : JType → Option ℕ
constant_tag Boolean = Some 3
constant_tag Byte = Some 3
constant_tag Char = Some 3
constant_tag Short = Some 3
constant_tag Int = Some 3
constant_tag Long = Some 5
constant_tag Float = Some 4
constant_tag Double = Some 6
constant_tag (Class name) = if bytes_eq name (codes "java/lang/String") then Some 8 else None
constant_tag (Array element) = None

-- the index that two bytes are
abbrev pub index_of : List ℕ → ℕ
index_of content = from_be_bytes w16 content

-- an entry of the tag that the constant of a field with this descriptor has
pub record IsConstantIndex (pool : List Entry) (descriptor index : ℕ) : Type 0 where
  pub units : List ℕ
  pub at_descriptor : text_at pool descriptor ≡ Some units
  pub type : JType
  pub spelled : SpellsDescriptor units (Field type)
  pub tag : ℕ
  pub of_type : constant_tag type ≡ Some tag
  pub there : HasTag pool index tag

-- the content of a ConstantValue of a field with this descriptor: two bytes, the index of its constant (JVMS 4.7.2)
pub record IsConstantValue (pool : List Entry) (descriptor : ℕ) (content : List ℕ) : Type 0 where
  pub long : length content ≡ 2
  pub leads : IsConstantIndex pool descriptor (index_of content)

-- classes behind their number
abbrev pub class_indices : List Entry → Layout BrokenKind (List ℕ)
class_indices pool = counted (asked u2 (IsClassIndex pool) kind.Index)

-- the content of an Exceptions: classes behind their number (JVMS 4.7.5)
pub record IsExceptions (pool : List Entry) (content : List ℕ) : Type 0 where
  pub indices : List ℕ
  pub content_is : IsWhole (class_indices pool) content indices

-- an attribute of a field that stands behind these: a ConstantValue is the first, and right
pub record IsLawfulInField (pool : List Entry) (descriptor : ℕ) (before : List Attribute) (this : Attribute) : Type 0 where
  pub first : text_at pool this.name ≡ Some (codes "ConstantValue") → contents pool (codes "ConstantValue") before ≡ []
  pub right : text_at pool this.name ≡ Some (codes "ConstantValue") → IsConstantValue pool descriptor this.content

-- an attribute of a method that stands behind these: a Code is the first, and so is an Exceptions, which is right
pub record IsLawfulInMethod (pool : List Entry) (before : List Attribute) (this : Attribute) : Type 0 where
  pub first_code : text_at pool this.name ≡ Some (codes "Code") → contents pool (codes "Code") before ≡ []
  pub first_exceptions : text_at pool this.name ≡ Some (codes "Exceptions") → contents pool (codes "Exceptions") before ≡ []
  pub right : text_at pool this.name ≡ Some (codes "Exceptions") → IsExceptions pool this.content

-- ACC_NATIVE or ACC_ABSTRACT (JVMS table 4.6-A)
abbrev pub IsBodiless : ℕ → Type 0
IsBodiless flags = IsBitSet flags 8 ⊎ IsBitSet flags 10

-- a method has a Code, or is native or abstract, and not both (JVMS 4.7.3)
abbrev pub HasBodyAs : List Entry → ℕ → List Attribute → Type 0
HasBodyAs pool flags attributes = (contents pool (codes "Code") attributes ≡ []) ↔ IsBodiless flags

-- ---- the last passes: the same bytes, with what is asked of each part where it begins

-- the name of a member
abbrev pub member_name : List Entry → Layout BrokenKind ℕ
member_name pool = asked u2 (IsTextIndex pool) kind.Index

-- an attribute of a field, behind these
abbrev pub lawful_in_field : List Entry → ℕ → List Attribute → Layout BrokenKind Attribute
lawful_in_field pool descriptor before = asked (named pool) (IsLawfulInField pool descriptor before) kind.Attribute

-- an attribute of a method, behind these
abbrev pub lawful_in_method : List Entry → List Attribute → Layout BrokenKind Attribute
lawful_in_method pool before = asked (named pool) (IsLawfulInMethod pool before) kind.Attribute

-- a field (JVMS 4.5)
abbrev pub field : List Entry → Layout BrokenKind RawMember
field pool =
    headed (λ m. m.flags) (asked u2 HasFieldFlags kind.Flags) (λ flags.
    headed (λ m. m.name) (member_name pool) (λ name.
    headed (λ m. m.descriptor) (asked u2 (λ index. IsSomeAnd (text_at pool index) IsFieldText) kind.Descriptor) (λ descriptor.
    headed (λ m. m.attributes) (counted_in_turn (lawful_in_field pool descriptor)) (λ attributes.
    exactly (record { flags = flags; name = name; descriptor = descriptor; attributes = attributes })))))

-- the attributes of a method: whether there is a Code is looked at first
abbrev pub method_attributes : List Entry → ℕ → Layout BrokenKind (List Attribute)
method_attributes pool flags =
    again (asked (counted attribute) (HasBodyAs pool flags) kind.Attribute)
    (λ _. counted_in_turn (lawful_in_method pool))

-- a method (JVMS 4.6)
abbrev pub method : List Entry → Layout BrokenKind RawMember
method pool =
    headed (λ m. m.flags) (asked u2 HasOneAccess kind.Flags) (λ flags.
    headed (λ m. m.name) (member_name pool) (λ name.
    headed (λ m. m.descriptor) (asked u2 (λ index. IsSomeAnd (text_at pool index) IsMethodText) kind.Descriptor) (λ descriptor.
    headed (λ m. m.attributes) (method_attributes pool flags) (λ attributes.
    exactly (record { flags = flags; name = name; descriptor = descriptor; attributes = attributes })))))

-- flags, class and superclass behind this pool
abbrev pub lawful_own : List Entry → Layout BrokenKind Own
lawful_own pool =
    headed (λ o. o.flags) (asked u2 HasClassFlags kind.Flags) (λ flags.
    headed (λ o. o.this_class) (asked u2 (IsClassIndex pool) kind.Index) (λ this_class.
    headed (λ o. o.super_class) (asked u2 (IsSuperIndex pool flags this_class) kind.Index) (λ super_class.
    exactly (record { flags = flags; this_class = this_class; super_class = super_class }))))

-- interfaces, fields, methods and attributes behind this pool
abbrev pub lawful_listed : List Entry → Layout BrokenKind Listed
lawful_listed pool =
    headed (λ l. l.interfaces) (class_indices pool) (λ interfaces.
    headed (λ l. l.fields) (counted (field pool)) (λ fields.
    headed (λ l. l.methods) (counted (method pool)) (λ methods.
    headed (λ l. l.attributes) (counted (named pool)) (λ attributes.
    exactly (record { interfaces = interfaces; fields = fields; methods = methods; attributes = attributes })))))

-- what follows this pool
abbrev pub lawful_rest : List Entry → Layout BrokenKind Rest
lawful_rest pool = rest_of (lawful_own pool) (lawful_listed pool)

-- what is asked of a class file with this pool: of the pool, which stands first, and then of the rest
abbrev pub sound : ℕ → List Entry → Layout BrokenKind Raw
sound oldest pool = file_of (front oldest (Some pool)) (lawful_rest pool)
