-- What the functions that decide which members instructions have promise each other.
use Rattle.std.specs.Prelude.{◌≡◌, ◌⊎◌, ℕ, ⊤, Bool, true, false, not, ◌&&◌, if◌then◌else◌, List, map, Option, Some, None, IsSomeAnd}
use Rattle.std.specs.Option.{option_and_then}
use Rattle.dj_names.specs.declared.header.Header.{Header}
use Rattle.dj_names.specs.Headers.{Name}
use Rattle.dj_names.specs.Types.{JType, Class, parameters_of}
use Rattle.dj_names.specs.MethodNames.{is_constructor}
use Rattle.dj_values.specs.Deciding.{is_some_and, is_subclass}
use Rattle.dj_values.specs.Fits.{class_of}
use Rattle.dj_values.specs.Values.{InvokeKind, Special}
use Rattle.dj_kinds.specs.Search.{header_of, superclass_in}
use Rattle.dj_meaning.specs.Members.{Members, view_members, parameters, is_of_class, has_flag}
use Rattle.dj_meaning.specs.Fields.{KnownField, field_of}
use Rattle.dj_meaning.specs.Calls.{MethodIn}
use Rattle.dj_meaning.specs.Targets.{by_flags}
use Rattle.dj_instructions.specs.Instructions.{FieldRef, MethodRef, Instruction, view_field_ref, view_method_ref, GetStatic, PutStatic, GetField, PutField, InvokeVirtual, InvokeInterface, InvokeStatic, InvokeSpecial}
use Rattle.dj_frames.specs.Frames.{UnbornThis, Unborn, Frame}
use Rattle.dj_code.specs.MethodCode.{Typed}
use Rattle.dj_static.specs.declared.classes.Classes.{Classes}
use Rattle.dj_static.specs.Targets.{meant_in}
use Rattle.dj_meant.specs.Meant.{exact, through, names_member, IsField, IsOfObject, IsOfNew, IsOfConstruct, IsOfSuper, IsOfInterface}
use Rattle.dj_receivers.specs.Receivers.{IsOnThis}
use Rattle.dj_code_causes.specs.Places.{IsPlace}
use Rattle.dj_member_cause.specs.Lawful.{receiver_tag, may_set, HasMember}
use Rattle.dj_member_cause.specs.declared.judging.Named.{Named}
use Rattle.dj_member_cause.specs.declared.judging.Named.TheVariants as named
use Rattle.dj_member_cause.specs.declared.judging.Judgement.{Judgement}
use Rattle.dj_member_cause.specs.declared.judging.Judgement.TheVariants as judgement

-- the members of the program's classes
abbrev pub members_in : Classes → List Members
members_in classes = map view_members classes.members.now

-- ---- fields

-- the field that a name means in the class that is named, through an expression or by its class
abbrev pub meant_field : Classes → Bool → FieldRef → Option KnownField
meant_field classes static field =
    option_and_then (λ class. field_of classes.headers.now (members_in classes) classes.from.now (through static class) class field.name) (class_of field.owner)

-- what was found is the static one
abbrev pub IsStaticFound : Classes → FieldRef → Option KnownField → Type 0
IsStaticFound classes field found = found ≡ option_and_then (λ (known : KnownField). if known.of_class then Some known else None) (meant_field classes true field)

-- what was found is that of an object, static or not
abbrev pub IsFound : Classes → FieldRef → Option KnownField → Type 0
IsFound classes field found = found ≡ meant_field classes false field

-- the field that it means in the class that is named may be assigned
abbrev pub MaySetIn : Classes → FieldRef → Type 0
MaySetIn classes field = IsSomeAnd (class_of field.owner) (λ class. may_set classes.headers.now (members_in classes) classes.from.now class field.name ≡ true)

-- it is one, static or not, of the type that is named
abbrev pub NamesField : Classes → Bool → FieldRef → Type 0
NamesField classes static field = IsField classes.headers.now (members_in classes) classes.from.now static field

-- a static one that is read
pub record ReadsStatic (classes : Classes) (field : FieldRef) : Type 0 where
  pub is : NamesField classes true field
  pub plain : is.known.constant ≡ None

-- one that is written
pub record Writes (classes : Classes) (static : Bool) (field : FieldRef) : Type 0 where
  pub is : NamesField classes static field
  pub may : may_set classes.headers.now (members_in classes) classes.from.now is.class field.name ≡ true

-- ---- methods

-- a call by just a method's parameters, searched for in a type and through an expression of a type or none, means this method, which has the method's name and descriptor
pub record Means (classes : Classes) (receiver : JType) (through_type : Option JType) (method : MethodRef) (one : MethodIn) : Type 0 where
  pub meant : meant_in classes.headers.now classes.members.now classes.from.now receiver through_type method.name (exact (parameters_of method.descriptor)) ≡ Some one
  pub name : one.method.name ≡ method.name
  pub descriptor : one.method.descriptor ≡ method.descriptor

-- a call by just these parameters means this method, which has them
pub record MeansExactly (classes : Classes) (receiver : JType) (through_type : Option JType) (name : Name) (wanted : List JType) (one : MethodIn) : Type 0 where
  pub meant : meant_in classes.headers.now classes.members.now classes.from.now receiver through_type name (exact wanted) ≡ Some one
  pub parameters : parameters one.method ≡ wanted

-- a method of an object, by its kind
abbrev pub CallsObject : Classes → InvokeKind → MethodRef → Type 0
CallsObject classes kind method = IsOfObject classes.headers.now (members_in classes) classes.from.now kind method

-- a constructor of its owner, meant so
pub record MeansConstructor (classes : Classes) (through_type : Option JType) (method : MethodRef) : Type 0 where
  pub one : MethodIn
  pub means : Means classes method.owner through_type method one
  pub instance : is_of_class one.method.flags ≡ false

-- the class is this one, or the one above it
abbrev pub BeginsIn : Classes → Name → Type 0
BeginsIn classes class = (class ≡ classes.from.now) ⊎ (superclass_in (header_of classes.headers.now classes.from.now) ≡ Some class)

-- a constructor is called on what `new` made, or on `this`, and meant so
pub data Constructs (classes : Classes) (frame : Frame) (method : MethodRef) : Type 0 where
  made_new : {pc : ℕ} → receiver_tag method frame ≡ Some (Unborn pc) → IsOfNew classes.headers.now (members_in classes) classes.from.now method → Constructs classes frame method
  begun_here : receiver_tag method frame ≡ Some UnbornThis → IsOfConstruct classes.headers.now (members_in classes) classes.from.now method → Constructs classes frame method

-- a private method of this class, meant so
abbrev pub IsOwn : Classes → MethodRef → Type 0
IsOwn classes method = (method.owner ≡ Class classes.from.now) × CallsObject classes Special method

-- the machine's search begins in the superclass: the method is no constructor, and its owner is at or above that
abbrev pub starts_above : List Header → Name → MethodRef → Bool
starts_above headers superclass method = not (is_constructor method.name) && is_some_and (class_of method.owner) (λ owner. is_subclass headers superclass owner)

-- a call behind `super` of a class means this method, which may be called so and isn't abstract
pub record MeansAbove (classes : Classes) (above_type : JType) (method : MethodRef) (one : MethodIn) : Type 0 where
  pub means : Means classes above_type None method one
  pub special : by_flags classes.headers.now one Special ≡ Some Special
  pub concrete : has_flag 0x0400 one.method.flags ≡ false

-- a method behind `super`
abbrev pub CallsAbove : Classes → MethodRef → Type 0
CallsAbove classes method =
    IsOfSuper classes.headers.now (members_in classes) classes.from.now method ⊎ IsOfInterface classes.headers.now (members_in classes) classes.from.now method

-- ---- instructions

-- what an instruction names
abbrev pub IsNamedBy : Instruction → Named → Type 0
IsNamedBy instruction (named.ReadStatic field) = instruction ≡ GetStatic (view_field_ref field.now)
IsNamedBy instruction (named.WriteStatic field) = instruction ≡ PutStatic (view_field_ref field.now)
IsNamedBy instruction (named.Read field) = instruction ≡ GetField (view_field_ref field.now)
IsNamedBy instruction (named.Write field) = instruction ≡ PutField (view_field_ref field.now)
IsNamedBy instruction (named.Virtual method) = instruction ≡ InvokeVirtual (view_method_ref method.now)
IsNamedBy instruction (named.Interface method) = instruction ≡ InvokeInterface (view_method_ref method.now)
IsNamedBy instruction (named.Static method) = instruction ≡ InvokeStatic (view_method_ref method.now)
IsNamedBy instruction (named.Special method) = instruction ≡ InvokeSpecial (view_method_ref method.now)
IsNamedBy instruction named.Nothing = names_member instruction ≡ false

-- an instruction has its member, where the receiver of a call behind `super` is `this`, or isn't
abbrev pub HasWhere : Type 0 → Classes → Frame → Instruction → Type 0
HasWhere OnThis classes frame instruction = HasMember classes.headers.now (members_in classes) classes.from.now (λ method. OnThis) frame instruction

-- what is told of one that has its member, or lacks it
abbrev pub judged_of : Bool → Judgement
judged_of has = if has then judgement.Has else judgement.Lacks

-- what is told of an instruction: that it has its member, or lacks it, whatever its receiver is, or that it has it where that is `this`
abbrev pub IsJudged : Classes → Frame → Instruction → Judgement → Type 0
IsJudged classes frame instruction judgement.Has = HasWhere ⊥ classes frame instruction
IsJudged classes frame instruction judgement.Lacks = ¬ HasWhere ⊤ classes frame instruction
IsJudged classes frame instruction judgement.OnThis = HasWhere ⊤ classes frame instruction × ¬ HasWhere ⊥ classes frame instruction

-- an instruction with this frame before it lacks its member at a pc of a method
abbrev pub LacksAt : Classes → Typed → ℕ → Instruction → Frame → Type 0
LacksAt classes typed pc instruction frame = ¬ HasMember classes.headers.now (members_in classes) classes.from.now (IsOnThis typed pc) frame instruction

-- the instruction at this pc of a method lacks its member
abbrev pub LacksIn : Classes → Typed → ℕ → Type 0
LacksIn classes typed pc = IsPlace (λ here instruction frame. (pc ≡ here) × LacksAt classes typed pc instruction frame) typed.code.instructions typed.frames
