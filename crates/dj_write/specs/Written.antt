-- A class that some file describes, and the parts by their indices that describe it in turn (JVMS 4.1, 4.5 to 4.7).
use Rattle.std.specs.Prelude.{◌≡◌, ◌≢◌, ◌⊎◌, ◌<◌, ◌≤◌, ◌^◌, ℕ, List, [], ◌∷◌, ◌++◌, Option, Some, None, length, codes}
use Rattle.std.specs.List.{All, AllZip}
use Rattle.dj_layout.specs.Layout.{Layout}
use Rattle.dj_names.specs.declared.members.Constant.{Constant}
use Rattle.dj_names.specs.Headers.{Name}
use Rattle.dj_pool.specs.declared.entry.Entry.{Entry}
use Rattle.dj_pool.specs.declared.fault.BrokenKind.{BrokenKind}
use Rattle.dj_pool.specs.declared.raw.Attribute.{Attribute}
use Rattle.dj_pool.specs.PoolFormat.{class_at, text_at}
use Rattle.dj_pool.specs.SharedParts.{counted, u2}
use Rattle.dj_class.specs.Described.{ClassOf, DescribesClass, SpellsClass}
use Rattle.dj_class.specs.Members as plain
use Rattle.dj_class.specs.FileFormat.{LeadsTo, Raw, sound}
use Rattle.dj_write.specs.declared.members.RawMember.{RawMember}
use Rattle.dj_write.specs.Files.{view_members}
use Rattle.dj_write.specs.Found.{IsLed, constant_at}

-- the class is that of some file
pub record HasFile (class : ClassOf) : Type 0 where
  pub bytes : List ℕ
  pub oldest : ℕ
  pub spelled : SpellsClass bytes oldest class

-- the file by its indices is one of the class, whatever oldest version up to the class's own is taken
pub record IsFileOf (class : ClassOf) (raw : Raw) : Type 0 where
  pub lawful : (oldest : ℕ) → oldest ≤ class.major → (sound oldest class.pool).Fits raw
  pub describes : DescribesClass raw class

-- some part by its indices that the layout takes describes this
pub record IsDescribed {A B : Type 0} (layout : Layout BrokenKind A) (Describes : A → B → Type 0) (described : B) : Type 0 where
  pub raw : A
  pub fits : layout.Fits raw
  pub describes : Describes raw described

-- the part by its indices is one that the layout takes, and describes this
pub record IsRaw {A B : Type 0} (layout : Layout BrokenKind A) (Describes : A → B → Type 0) (described : B) (raw : A) : Type 0 where
  pub fits : layout.Fits raw
  pub describes : Describes raw described

-- so is each of these fields or methods
pub record AreRaws {B : Type 0} (layout : Layout BrokenKind plain.RawMember) (Describes : plain.RawMember → B → Type 0) (described : List B) (raws : List RawMember) : Type 0 where
  pub fit : All layout.Fits (view_members raws)
  pub describe : AllZip Describes (view_members raws) described

-- an index in two bytes that leads to this
pub record LeadsIn {A : Type 0} (led : ℕ → Option A) (index : ℕ) (found : A) : Type 0 where
  pub small : index < 2 ^ 16
  pub leads : led index ≡ Some found

-- ---- attributes

-- an attribute of this name, with this content, behind others
pub record IsPushed (pool : List Entry) (name content : List ℕ) (before after : List Attribute) : Type 0 where
  pub index : ℕ
  pub named : LeadsIn (text_at pool) index name
  pub pushed : after ≡ before ++ record { name = index; content = content } ∷ []

-- the content of a ConstantValue: an index of the constant (JVMS 4.7.2)
pub record IsConstantContent (pool : List Entry) (constant : Constant) (content : List ℕ) : Type 0 where
  pub index : ℕ
  pub leads : LeadsIn (constant_at pool) index constant
  pub spelled : content ≡ u2.spell index

-- indices of these classes
pub record AreClasses (pool : List Entry) (names : List Name) (indices : List ℕ) : Type 0 where
  pub small : All (λ index. index < 2 ^ 16) indices
  pub lead : AllZip (LeadsTo pool) indices names

-- the content of an Exceptions: indices of the classes behind their number (JVMS 4.7.5)
pub record IsExceptionsContent (pool : List Entry) (thrown : List Name) (content : List ℕ) : Type 0 where
  pub indices : List ℕ
  pub lead : AreClasses pool thrown indices
  pub spelled : content ≡ (counted u2).spell indices

-- the attributes of a field with this constant: a ConstantValue, or none
abbrev pub AreOfField : List Entry → Option Constant → List Attribute → Type 0
AreOfField pool None attributes = attributes ≡ []
AreOfField pool (Some constant) attributes = (content : List ℕ) × IsConstantContent pool constant content × IsPushed pool (codes "ConstantValue") content [] attributes

-- the attributes with a Code of this content behind them, where there is one (JVMS 4.7.3)
abbrev pub PushesCode : List Entry → Option (List ℕ) → List Attribute → List Attribute → Type 0
PushesCode pool None before after = after ≡ before
PushesCode pool (Some content) before after = IsPushed pool (codes "Code") content before after

-- the attributes with an Exceptions of these classes behind them, where there are any
abbrev pub PushesExceptions : List Entry → List Name → List Attribute → List Attribute → Type 0
PushesExceptions pool thrown before after =
    ((thrown ≡ []) × (after ≡ before)) ⊎ ((content : List ℕ) × IsExceptionsContent pool thrown content × IsPushed pool (codes "Exceptions") content before after)

-- the attributes of a method with this content of its Code that throws these
pub record AreOfMethod (pool : List Entry) (code : Option (List ℕ)) (thrown : List Name) (attributes : List Attribute) : Type 0 where
  pub first : List Attribute
  pub code_is : PushesCode pool code [] first
  pub thrown_are : PushesExceptions pool thrown first attributes

-- the index of the superclass, 0 for none (JVMS 4.1)
abbrev pub IsSuper : List Entry → Option Name → ℕ → Type 0
IsSuper pool None index = index ≡ 0
IsSuper pool (Some name) index = LeadsIn (class_at pool) index name

-- ---- what the pool has

-- the pool has the superclass, where there is one
abbrev pub HasSuper : List Entry → Option Name → Type 0
HasSuper pool None = Unit {0}
HasSuper pool (Some name) = IsLed (class_at pool) name

-- the pool has what a ConstantValue of this constant wants
abbrev pub HasConstant : List Entry → Option Constant → Type 0
HasConstant pool None = Unit {0}
HasConstant pool (Some constant) = IsLed (text_at pool) (codes "ConstantValue") × IsLed (constant_at pool) constant

-- the pool has the name of a Code, where there is one
abbrev pub HasCodeName : List Entry → Option (List ℕ) → Type 0
HasCodeName pool None = Unit {0}
HasCodeName pool (Some content) = IsLed (text_at pool) (codes "Code")

-- the pool has these classes, which can be counted in two bytes
pub record HasClasses (pool : List Entry) (names : List Name) : Type 0 where
  pub few : length names < 2 ^ 16
  pub each : All (IsLed (class_at pool)) names

-- the pool has what an Exceptions of these classes wants
pub record HasThrown (pool : List Entry) (thrown : List Name) : Type 0 where
  pub named : thrown ≢ [] → IsLed (text_at pool) (codes "Exceptions")
  pub classes : HasClasses pool thrown
