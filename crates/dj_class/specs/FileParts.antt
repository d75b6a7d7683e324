-- What the functions that read a class file promise each other.
use Rattle.std.specs.Prelude.{◌≡◌, ◌↔◌, ℕ, Bool, IsTrue, List, [], ◌∷◌, Option, Some, None, Result, Ok, Err, codes, map, slice_get}
use Rattle.std.specs.List.{AllZip}
use Rattle.std.specs.Option.{option_and_then, option_to_list}
use Rattle.dj_layout.specs.declared.fault.Stop.{Stop}
use Rattle.dj_layout.specs.Layout.{Stops}
use Rattle.dj_layout.specs.Whole.{IsWhole, FirstFault}
use Rattle.dj_pool.specs.declared.fault.BrokenKind.{BrokenKind}
use Rattle.dj_pool.specs.declared.fault.BrokenKind.TheVariants as kind
use Rattle.dj_class.specs.declared.front.Front.{Front}
use Rattle.dj_pool.specs.declared.raw.Attribute.{Attribute}
use Rattle.dj_pool.specs.declared.entry.Entry.{Entry}
use Rattle.dj_names.specs.declared.members.Constant.{Constant}
use Rattle.dj_class.specs.FileFormat.{Own, Listed, Rest, Raw, LeadsTo, file, index_of}
use Rattle.dj_pool.specs.Attributes.{contents}
use Rattle.dj_class.specs.declared.own.OwnNames.{OwnNames}
use Rattle.dj_class.specs.declared.listed.Members.{Members}
use Rattle.dj_class.specs.declared.class.ClassFile.{ClassFile}
use Rattle.dj_pool.specs.PoolFormat.{class_at}
use Rattle.dj_class.specs.Described.{FieldOf, MethodOf, constant_of, IsThrown, DescribesField, DescribesMethod, SpellsClass, HasFault}
use Rattle.dj_class.specs.Views.{view_field, view_method, view_class}
use Rattle.dj_names.specs.Headers.{Name}

-- the bytes are laid out as a class file with this front
pub record HasFront (bytes : List ℕ) (oldest : ℕ) (front : Front) : Type 0 where
  pub raw : Raw
  pub laid_out : IsWhole (file oldest) bytes raw
  pub front_is : raw.front ≡ front

-- what the reader of the first pass answers
abbrev pub ReadsFront : List ℕ → ℕ → Result Front (Stop BrokenKind) → Type 0
ReadsFront bytes oldest (Ok front) = HasFront bytes oldest front
ReadsFront bytes oldest (Err why) = Stops (λ _. FirstFault (file oldest) kind.Trailing) 0 bytes why

-- the index of the constant that these attributes of a field have, None where they have none
abbrev pub HasConstantIndex : List Entry → List Attribute → Option ℕ → Type 0
HasConstantIndex pool attributes None = contents pool (codes "ConstantValue") attributes ≡ []
HasConstantIndex pool attributes (Some index) = (content : List ℕ) × (contents pool (codes "ConstantValue") attributes ≡ content ∷ []) × (index ≡ index_of content)

-- the constant at an index, if there is an index
abbrev pub constant_at : List Entry → Option ℕ → Option Constant
constant_at pool found = option_and_then (λ index. option_and_then (constant_of pool) (slice_get pool index)) found

-- the content of the Code among these attributes, None where there is none
abbrev pub HasCode : List Entry → List Attribute → Option (List ℕ) → Type 0
HasCode pool attributes code = contents pool (codes "Code") attributes ≡ option_to_list code

-- the classes of the Exceptions among these attributes, None where there is none
abbrev pub HasExceptions : List Entry → List Attribute → Option (List Name) → Type 0
HasExceptions pool attributes None = contents pool (codes "Exceptions") attributes ≡ []
HasExceptions pool attributes (Some thrown) = (content : List ℕ) × (contents pool (codes "Exceptions") attributes ≡ content ∷ []) × IsThrown pool (content ∷ []) thrown

-- the code and the classes that are found among these attributes of a method
pub record HasFound (pool : List Entry) (attributes : List Attribute) (found : Option (List ℕ) × Option (List Name)) : Type 0 where
  pub code_is : HasCode pool attributes found.0
  pub thrown_are : HasExceptions pool attributes found.1

-- whether there is no Code among these attributes
abbrev pub HasNoCode : List Entry → List Attribute → Bool → Type 0
HasNoCode pool attributes none = IsTrue none ↔ (contents pool (codes "Code") attributes ≡ [])

-- what a file says of the class itself, for a class and a superclass of these names
pub record DescribesOwn (pool : List Entry) (own : Own) (class : OwnNames) : Type 0 where
  pub flags : class.flags ≡ own.flags
  pub this_class : LeadsTo pool own.this_class class.this_class
  pub super_class : class.super_class ≡ class_at pool own.super_class

-- interfaces, fields and methods
pub record MembersOf : Type 0 where
  pub interfaces : List Name
  pub fields : List FieldOf
  pub methods : List MethodOf

-- the interfaces, fields and methods that a file describes
pub record DescribesListed (pool : List Entry) (listed : Listed) (members : MembersOf) : Type 0 where
  pub interfaces : AllZip (LeadsTo pool) listed.interfaces members.interfaces
  pub fields : AllZip (DescribesField pool) listed.fields members.fields
  pub methods : AllZip (DescribesMethod pool) listed.methods members.methods

-- what a file describes behind its pool
pub record DescribesRest (pool : List Entry) (rest : Rest) (found : OwnNames × MembersOf) : Type 0 where
  pub own : DescribesOwn pool rest.own found.0
  pub listed : DescribesListed pool rest.listed found.1

-- interfaces, fields and methods of the code, seen as plain data
abbrev pub view_members : Members → MembersOf
view_members members = record { interfaces = members.interfaces; fields = map view_field members.fields; methods = map view_method members.methods }

-- what the reader of the class or the fault answers
abbrev pub ReadsFile : List ℕ → ℕ → Result ClassFile (Stop BrokenKind) → Type 0
ReadsFile bytes oldest (Ok class) = SpellsClass bytes oldest (view_class class)
ReadsFile bytes oldest (Err why) = Stops (λ _ _. HasFault bytes oldest) 0 bytes why
