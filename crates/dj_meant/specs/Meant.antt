-- Which member an instruction names, as source names members: by exact types of arguments, through the owner that the instruction names (JLS 6.6, 8.8, 15.9.3, 15.11, 15.12).
-- An instruction whose member source can't name so is a cause for which its method isn't printed.
use Rattle.std.specs.Prelude.{◌≡◌, Bool, true, false, if◌then◌else◌, List, map, Option, Some, None}
use Rattle.dj_names.specs.declared.header.Header.{Header}
use Rattle.dj_names.specs.Headers.{Name}
use Rattle.dj_names.specs.MethodNames.{is_constructor}
use Rattle.dj_names.specs.Types.{JType, Class, StaticType, Of, parameters_of}
use Rattle.dj_values.specs.Values.{InvokeKind, Virtual, Interface, Static, Special}
use Rattle.dj_values.specs.Deciding.{is_name, is_interface, is_some_and}
use Rattle.dj_kinds.specs.Search.{header_of, superclass_in, interfaces_of}
use Rattle.std.specs.List.{list_any}
use Rattle.dj_instructions.specs.Instructions.{FieldRef, MethodRef}
use Rattle.dj_instructions.specs.Instructions as op
use Rattle.dj_bytecode.specs.Objects.{special_owner}
use Rattle.dj_meaning.specs.Members.{Members, has_flag}
use Rattle.dj_meaning.specs.Fields.{KnownField, field_of}
use Rattle.dj_meaning.specs.Calls.{MethodIn, chosen}
use Rattle.dj_meaning.specs.Targets.{Target, of_object, of_class, of_super, of_new, of_construct}
use Rattle.dj_typing.specs.Expressions.{is_abstract}

-- the types of arguments that are just these
abbrev pub exact : List JType → List StaticType
exact = map Of

-- what an instruction on a method asks for, by a kind and an owner
abbrev pub asked_of : InvokeKind → JType → MethodRef → Target
asked_of kind owner method = record { kind = kind; owner = owner; name = method.name; descriptor = method.descriptor }

-- what the object is that a method is called on, as far as source has other words for it: one that `new` made and whose constructor this is; `this` whose constructor this is;
-- `this` itself, whatever became of it; or any other
pub data Receiver : Type 0 where
  Made : Receiver
  Begun : Receiver
  This : Receiver
  Other : Receiver

-- the type that a field is named through, none where its class is named
abbrev pub through : Bool → Name → Option JType
through static class = if static then None else Some (Class class)

-- an instruction names a field or a method
abbrev pub names_member : op.Instruction → Bool
names_member op.Nop = false
names_member op.PushNull = false
names_member (op.Push constant) = false
names_member (op.PushClass type) = false
names_member (op.PushHandle kind interface owner name descriptor) = false
names_member (op.PushMethodType descriptor) = false
names_member (op.Load kind slot) = false
names_member (op.Store kind slot) = false
names_member (op.ArrayLoad element) = false
names_member (op.ArrayStore element) = false
names_member op.Pop = false
names_member op.Pop2 = false
names_member op.Dup = false
names_member op.DupX1 = false
names_member op.DupX2 = false
names_member op.Dup2 = false
names_member op.Dup2X1 = false
names_member op.Dup2X2 = false
names_member op.Swap = false
names_member (op.Calc operation kind) = false
names_member (op.Iinc slot by) = false
names_member (op.Convert from to) = false
names_member (op.Compare kind greater) = false
names_member (op.IfZero test target) = false
names_member (op.IfInts test target) = false
names_member (op.IfRefs equal target) = false
names_member (op.IfNull null target) = false
names_member (op.Goto target) = false
names_member (op.TableSwitch low targets other) = false
names_member (op.LookupSwitch cases other) = false
names_member (op.Return kind) = false
names_member (op.GetStatic field) = true
names_member (op.PutStatic field) = true
names_member (op.GetField field) = true
names_member (op.PutField field) = true
names_member (op.InvokeVirtual method) = true
names_member (op.InvokeSpecial method) = true
names_member (op.InvokeStatic method) = true
names_member (op.InvokeInterface method) = true
names_member (op.InvokeDynamic bootstrap name descriptor) = false
names_member (op.New name) = false
names_member (op.NewArray element) = false
names_member (op.MultiNewArray type sizes) = false
names_member op.ArrayLength = false
names_member op.Throw = false
names_member (op.CheckCast type) = false
names_member (op.InstanceOf type) = false
names_member op.MonitorEnter = false
names_member op.MonitorExit = false

-- the class whose constructor `this(..)` (true) or `super(..)` (false) calls in a class
abbrev pub constructed_class : List Header → Name → Bool → Option Name
constructed_class world from true = Some from
constructed_class world from false = superclass_in (header_of world from)

module _ (world : List Header) (members : List Members) (from : Name) where
  -- a field, static or not: its name means it in the class that the instruction names
  pub record IsField (static : Bool) (field : FieldRef) : Type 0 where
    pub class : Name
    pub owner : field.owner ≡ Class class
    pub known : KnownField
    pub meant : field_of world members from (through static class) class field.name ≡ Some known
    pub static_alike : known.of_class ≡ static
    pub type : known.type ≡ field.kind

  -- the method that a call on an object means by exact types, of this kind and of the owner that is named
  pub record IsOfObject (kind : InvokeKind) (method : MethodRef) : Type 0 where
    pub meant : of_object world members from method.name (exact (parameters_of method.descriptor)) method.owner ≡ Some (asked_of kind method.owner method)

  -- so for a static method of a class that is named
  pub record IsOfClass (method : MethodRef) : Type 0 where
    pub class : Name
    pub owner : method.owner ≡ Class class
    pub meant : of_class world members from class method.name (exact (parameters_of method.descriptor)) ≡ Some (asked_of Static (Class class) method)

  -- a constructor of a class of which objects are made
  pub record IsOfNew (method : MethodRef) : Type 0 where
    pub class : Name
    pub owner : method.owner ≡ Class class
    pub constructs : is_constructor method.name ≡ true
    pub concrete : is_abstract world class ≡ false
    pub meant : of_new world members from class (exact (parameters_of method.descriptor)) ≡ Some (asked_of Special (Class class) method)

  -- a constructor of this class (true) or of the one above it (false), called on `this`
  pub record IsOfConstruct (method : MethodRef) : Type 0 where
    pub constructs : is_constructor method.name ≡ true
    pub own : Bool
    pub class : Name
    pub owner : method.owner ≡ Class class
    pub meant : of_construct world members from own (exact (parameters_of method.descriptor)) ≡ Some (asked_of Special (Class class) method)

  -- the method that a call behind `super` means, searched for from a class
  abbrev pub meant_above : Name → MethodRef → Option MethodIn
  meant_above above method = chosen world members (record { from = from; class = above; through = None; name = method.name; arguments = exact (parameters_of method.descriptor) })

  -- it is abstract (15.12.3), be it so again in an interface
  abbrev pub is_abstract_above : Name → MethodRef → Bool
  is_abstract_above above method = is_some_and (meant_above above method) (λ (one : MethodIn). has_flag 0x0400 one.method.flags)

  -- an interface declares it
  abbrev pub is_of_interface : Name → MethodRef → Bool
  is_of_interface above method = is_some_and (meant_above above method) (λ (one : MethodIn). is_interface world one.owner)

  -- a method of the superclass or of one above it, in a class; its search begins in the direct superclass, and what it means isn't abstract
  pub record IsOfSuper (method : MethodRef) : Type 0 where
    pub plain : is_constructor method.name ≡ false
    pub in_class : is_interface world from ≡ false
    pub above : Name
    pub superclass : superclass_in (header_of world from) ≡ Some above
    pub owner : special_owner world from method ≡ Class above
    pub meant : of_super world members from None method.name (exact (parameters_of method.descriptor)) ≡ Some (asked_of Special (Class above) method)
    pub concrete : is_abstract_above above method ≡ false

  -- a default method of an interface that this class lists: an interface declares what it means, and it isn't abstract
  pub record IsOfInterface (method : MethodRef) : Type 0 where
    pub plain : is_constructor method.name ≡ false
    pub interface : Name
    pub owner : method.owner ≡ Class interface
    pub own : special_owner world from method ≡ method.owner
    pub listed : list_any (λ name. is_name name interface) (interfaces_of world from) ≡ true
    pub meant : of_super world members from (Some interface) method.name (exact (parameters_of method.descriptor)) ≡ Some (asked_of Special (Class interface) method)
    pub concrete : is_abstract_above interface method ≡ false
    pub default : is_of_interface interface method ≡ true

  -- the lawful kinds of `invokespecial`, by its receiver
  pub data IsLawful (method : MethodRef) : Receiver → Type 0 where
    lawful_new : IsOfNew method → IsLawful method Made
    lawful_construct : IsOfConstruct method → IsLawful method Begun
    lawful_private : {receiver : Receiver} → method.owner ≡ Class from → is_constructor method.name ≡ false → IsOfObject Special method → IsLawful method receiver
    lawful_super : IsOfSuper method → IsLawful method This
    lawful_interface : IsOfInterface method → IsLawful method This

  -- an instruction has the member that source means by its words, where it names one; `may_set` tells which fields of a class may be assigned
  pub data HasMember (may_set : Name → Name → Bool) (receiver : Receiver) : op.Instruction → Type 0 where
    get_static : {field : FieldRef} (is : IsField true field) → is.known.constant ≡ None → HasMember may_set receiver (op.GetStatic field)
    put_static : {field : FieldRef} (is : IsField true field) → may_set is.class field.name ≡ true → HasMember may_set receiver (op.PutStatic field)
    get_field : {field : FieldRef} → IsField false field → HasMember may_set receiver (op.GetField field)
    put_field : {field : FieldRef} (is : IsField false field) → may_set is.class field.name ≡ true → HasMember may_set receiver (op.PutField field)
    invoke_virtual : {method : MethodRef} → IsOfObject Virtual method → HasMember may_set receiver (op.InvokeVirtual method)
    invoke_interface : {method : MethodRef} → IsOfObject Interface method → HasMember may_set receiver (op.InvokeInterface method)
    invoke_static : {method : MethodRef} → IsOfClass method → HasMember may_set receiver (op.InvokeStatic method)
    invoke_special : {method : MethodRef} → IsLawful method receiver → HasMember may_set receiver (op.InvokeSpecial method)
    none : {instruction : op.Instruction} → names_member instruction ≡ false → HasMember may_set receiver instruction
