-- Which units have a text: names are names, and a head says what its members are (JLS 3.8, 8, 9).
use Rattle.std.specs.Prelude.{◌≡◌, ◌≢◌, ℕ, ◌==◌, Bool, true, false, IsTrue, IsFalse, ◌&&◌, not, if◌then◌else◌, List, [], ◌∷◌, ◌++◌, Option, Some, None, IfSome, is_some, bit_and, bit_or, codes}
use Rattle.std.specs.List.{AllByRecursion}
use Rattle.dj_names.specs.Types.{JType, Descriptor, Field, Method, result_of}
use Rattle.dj_names.specs.Identifiers.{IsDigit, IsIdentifier}
use Rattle.dj_syntax.specs.Trees.{Body, FieldText, MethodText, CompilationUnit}
use Rattle.dj_syntax.specs.UnitText.{is_constructor, is_initialiser, is_interface, class_bits, field_bits, method_bits}
pub use Rattle.dj_syntax.specs.UnitText.{class_name}
pub use Rattle.dj_syntax.specs.WellFormedTrees.{IsQualified, IsNamed, is_array, IsVariable, has_no_exp, IsWellFormedExp, AreWellFormedExps, is_call, is_declaration, has_no_group, has_no_catch, IsCase, IsWellFormedStm, AreWellFormedStms, AreWellFormedGroups, AreWellFormedCatches}

-- ---- names

-- a method's descriptor, each type of which can be written
abbrev pub IsMethodDescriptor : Descriptor → Type 0
IsMethodDescriptor (Field kind) = ⊥
IsMethodDescriptor (Method parameters result) = AllByRecursion IsNamed parameters × IfSome result IsNamed

-- a number in digits, none of them a zero in front of another digit (JLS 3.10.1)
abbrev pub IsDecimalNumeral : List ℕ → Type 0
IsDecimalNumeral [] = ⊥
IsDecimalNumeral (digit ∷ []) = IsDigit digit
IsDecimalNumeral (first ∷ next ∷ rest) = (first ≢ 48) × AllByRecursion IsDigit (first ∷ next ∷ rest)

-- the name of a helper: `rethrow$` and a number in digits
abbrev pub IsHelperName : List ℕ → Type 0
IsHelperName name = (digits : List ℕ) × IsDecimalNumeral digits × (name ≡ codes "rethrow$" ++ digits)

-- ---- flags

-- the flags that the text of a class or interface gives back: what it shows, and what an interface implies
abbrev pub held_class : ℕ → ℕ
held_class flags = bit_or (bit_and flags (class_bits (is_interface flags))) (if is_interface flags then 0x0600 else 0)

-- the flags that the text of a field gives back; an interface implies public, and final beside a value
abbrev pub held_field : Bool → FieldText → ℕ
held_field interface field =
    bit_or (bit_and field.flags (field_bits interface (is_some field.value)))
    (if interface then (if is_some field.value then 0x0011 else 0x0001) else 0)

-- the flags that the text of a method gives back; an interface implies public, and abstract where there is no body and no `static`
abbrev pub held_method : Bool → MethodText → ℕ
held_method interface method =
    if is_initialiser method.name then 0x0008
    else bit_or (bit_and method.flags (method_bits interface))
    (if interface then (if not (is_some method.body) && (bit_and method.flags 0x0008 == 0) then 0x0401 else 0x0001) else 0)

-- ---- members

-- one fact or another, by a test
abbrev pub cond_type : Bool → Type 0 → Type 0 → Type 0
cond_type true first second = first
cond_type false first second = second

-- the head of a body is that of its method, in the class of its unit
pub record HasHeadOf (owner : List ℕ) (method : MethodText) (body : Body) : Type 0 where
  pub class : body.class ≡ owner
  pub flags : body.flags ≡ method.flags
  pub name : body.name ≡ method.name
  pub descriptor : body.descriptor ≡ method.descriptor
  pub thrown : body.thrown ≡ method.thrown

-- a static initialiser takes nothing, gives nothing, lists no exception and has a body
pub record IsInitialiser (method : MethodText) : Type 0 where
  pub descriptor : method.descriptor ≡ Method [] None
  pub thrown : method.thrown ≡ []
  pub body : IsTrue (is_some method.body)

-- a method's name is an identifier, or that of a constructor without a result or of a static initialiser
abbrev pub HasMethodName : MethodText → Type 0
HasMethodName method =
    cond_type (is_constructor method.name) (result_of method.descriptor ≡ None)
    (cond_type (is_initialiser method.name) (IsInitialiser method) (IsIdentifier method.name))

-- ---- members

-- a field of a class or interface
pub record IsWellFormedField (interface : Bool) (field : FieldText) : Type 0 where
  pub name : IsIdentifier field.name
  pub kind : IsNamed field.kind
  pub flags : field.flags ≡ held_field interface field
  pub value : IfSome field.value IsWellFormedExp

-- a body that stands in a method of a class, given whether its unit has a helper
pub record IsWellFormedBody (helper : Bool) (class : List ℕ) (method : MethodText) (body : Body) : Type 0 where
  pub head : HasHeadOf class method body
  pub statements : AreWellFormedStms helper body.statements

-- a method of a class or interface, given whether its unit has a helper
pub record IsWellFormedMethod (interface helper : Bool) (class : List ℕ) (method : MethodText) : Type 0 where
  pub name : HasMethodName method
  pub descriptor : IsMethodDescriptor method.descriptor
  pub thrown : AllByRecursion IsQualified method.thrown
  pub flags : method.flags ≡ held_method interface method
  pub body : IfSome method.body (IsWellFormedBody helper class method)

-- an interface names no superclass, a class none that it has without a word
abbrev pub IsSuperclass : Bool → List ℕ → Type 0
IsSuperclass interface name = IsFalse interface × IsQualified name × (name ≢ codes "java/lang/Object")

-- a unit that has a text
pub record IsWellFormed (unit : CompilationUnit) : Type 0 where
  pub in_package : IfSome unit.«package» IsQualified
  pub name : IsIdentifier unit.name
  pub flags : unit.flags ≡ held_class unit.flags
  pub superclass : IfSome unit.superclass (IsSuperclass (is_interface unit.flags))
  pub interfaces : AllByRecursion IsQualified unit.interfaces
  pub fields : AllByRecursion (IsWellFormedField (is_interface unit.flags)) unit.fields
  pub helper : IfSome unit.helper IsHelperName
  pub methods : AllByRecursion (IsWellFormedMethod (is_interface unit.flags) (is_some unit.helper) (class_name unit)) unit.methods
