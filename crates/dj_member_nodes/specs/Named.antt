-- What the causes give of an instruction: its member is the one that source means, and what it names can be said (JLS 6.4.2, 6.5, 6.6, 15.12.3).
use Rattle.std.specs.Prelude.{◌≡◌, ℕ, true, false, List, [], ◌∷◌, Option, Some, None, IfSome}
use Rattle.dj_names.specs.Headers.{Name}
use Rattle.dj_names.specs.MethodNames.{is_constructor}
use Rattle.dj_names.specs.Types.{JType, Class, parameters_of, result_of}
use Rattle.dj_names.specs.Assignable.{object_name}
use Rattle.std.specs.Prelude.{codes}
use Rattle.std.specs.List.{list_any}
use Rattle.dj_kinds.specs.Search.{header_of, superclass_in, interfaces_of}
use Rattle.dj_values.specs.Fits.{throwable_name}
use Rattle.dj_values.specs.Deciding.{is_name, is_interface}
use Rattle.dj_bytecode.specs.Objects.{special_owner}
use Rattle.dj_instructions.specs.Instructions.{FieldRef, MethodRef, Instruction}
use Rattle.dj_instructions.specs.Instructions as op
use Rattle.dj_typing.specs.Sites.{Site, may_name, may_name_type}
use Rattle.dj_typing.specs.Expressions.{means_abstract}
use Rattle.dj_blocks_formed.specs.Stores.{may_assign}
use Rattle.dj_members_shown.specs.Meant.{exact, Receiver, Made, HasMember}

-- types that can be named
abbrev pub AreNamed : Site → List JType → Type 0
AreNamed site [] = Unit {0}
AreNamed site (first ∷ rest) = (may_name_type site first ≡ true) × AreNamed site rest

-- a field that can be named
pub record FieldIsNamed (site : Site) (field : FieldRef) : Type 0 where
  pub owner : may_name_type site field.owner ≡ true
  pub kind : may_name_type site field.kind ≡ true
  pub name : site.can_name field.name ≡ true

-- a method that can be named, but for a constructor's name
pub record MethodIsNamed (site : Site) (method : MethodRef) : Type 0 where
  pub owner : may_name_type site method.owner ≡ true
  pub parameters : AreNamed site (parameters_of method.descriptor)
  pub result : IfSome (result_of method.descriptor) (λ type. may_name_type site type ≡ true)
  pub name : is_constructor method.name ≡ false → site.can_name method.name ≡ true

-- what an instruction names can be said; constructors are called by `invokespecial` alone
abbrev pub IsNamed : Site → Instruction → Type 0
IsNamed site op.Nop = Unit {0}
IsNamed site op.PushNull = Unit {0}
IsNamed site (op.Push constant) = Unit {0}
IsNamed site (op.PushClass type) = may_name_type site type ≡ true
IsNamed site (op.PushHandle kind interface owner name descriptor) = Unit {0}
IsNamed site (op.PushMethodType descriptor) = Unit {0}
IsNamed site (op.Load kind slot) = Unit {0}
IsNamed site (op.Store kind slot) = Unit {0}
IsNamed site (op.ArrayLoad kind) = Unit {0}
IsNamed site (op.ArrayStore kind) = Unit {0}
IsNamed site op.Pop = Unit {0}
IsNamed site op.Pop2 = Unit {0}
IsNamed site op.Dup = Unit {0}
IsNamed site op.DupX1 = Unit {0}
IsNamed site op.DupX2 = Unit {0}
IsNamed site op.Dup2 = Unit {0}
IsNamed site op.Dup2X1 = Unit {0}
IsNamed site op.Dup2X2 = Unit {0}
IsNamed site op.Swap = Unit {0}
IsNamed site (op.Calc operation kind) = Unit {0}
IsNamed site (op.Iinc slot by) = Unit {0}
IsNamed site (op.Convert from to) = Unit {0}
IsNamed site (op.Compare kind greater) = Unit {0}
IsNamed site (op.IfZero test target) = Unit {0}
IsNamed site (op.IfInts test target) = Unit {0}
IsNamed site (op.IfRefs equal target) = Unit {0}
IsNamed site (op.IfNull null target) = Unit {0}
IsNamed site (op.Goto target) = Unit {0}
IsNamed site (op.TableSwitch low targets other) = Unit {0}
IsNamed site (op.LookupSwitch cases other) = Unit {0}
IsNamed site (op.Return kind) = Unit {0}
IsNamed site (op.GetStatic field) = FieldIsNamed site field
IsNamed site (op.PutStatic field) = FieldIsNamed site field
IsNamed site (op.GetField field) = FieldIsNamed site field
IsNamed site (op.PutField field) = FieldIsNamed site field
IsNamed site (op.InvokeVirtual method) = MethodIsNamed site method × (is_constructor method.name ≡ false)
IsNamed site (op.InvokeSpecial method) = MethodIsNamed site method
IsNamed site (op.InvokeStatic method) = MethodIsNamed site method × (is_constructor method.name ≡ false)
IsNamed site (op.InvokeInterface method) = MethodIsNamed site method × (is_constructor method.name ≡ false)
IsNamed site (op.InvokeDynamic bootstrap name descriptor) = Unit {0}
IsNamed site (op.New name) = may_name site name ≡ true
IsNamed site (op.NewArray type) = may_name_type site type ≡ true
IsNamed site (op.MultiNewArray type sizes) = may_name_type site type ≡ true
IsNamed site op.ArrayLength = Unit {0}
IsNamed site op.Throw = Unit {0}
IsNamed site (op.CheckCast type) = may_name_type site type ≡ true
IsNamed site (op.InstanceOf type) = may_name_type site type ≡ true
IsNamed site op.MonitorEnter = Unit {0}
IsNamed site op.MonitorExit = Unit {0}

-- what the causes and the world give of a method's class: the classes that rebuilding names by itself can be said, and so can an array's length; no class is its own superclass or interface,
-- and the machine looks for a method that is named in the class itself there
pub record RootsAreNamed (site : Site) : Type 0 where
  pub object : may_name site object_name ≡ true
  pub string : may_name site (codes "java/lang/String") ≡ true
  pub class : may_name site (codes "java/lang/Class") ≡ true
  pub throwable : may_name site throwable_name ≡ true
  pub length : site.can_name (codes "length") ≡ true
  pub above : ¬ (superclass_in (header_of site.headers site.class) ≡ Some site.class)
  pub listed : list_any (λ name. is_name name site.class) (interfaces_of site.headers site.class) ≡ false
  pub own : (method : MethodRef) → method.owner ≡ Class site.class → special_owner site.headers site.class method ≡ method.owner

-- the class above, or the interface that is named, behind whose `super` a method is called
pub data IsBehindSuper (site : Site) (method : MethodRef) : Option Name → Type 0 where
  class : {above : Name} → is_interface site.headers site.class ≡ false → superclass_in (header_of site.headers site.class) ≡ Some above → special_owner site.headers site.class method ≡ Class above → IsBehindSuper site method None
  interface : {named : Name} → method.owner ≡ Class named → list_any (λ name. is_name name named) (interfaces_of site.headers site.class) ≡ true → IsBehindSuper site method (Some named)

-- what the causes give of an instruction at an offset, given what the receivers of calls are: its member, no abstract one behind `super`, and its names;
-- a constructor is called on an object that `new` made, as the call of another constructor on `this` isn't rebuilt so
pub record IsAllowed (site : Site) (receivers : ℕ → Receiver) (pc : ℕ) (instruction : Instruction) : Type 0 where
  pub member : HasMember site.headers site.members site.class (may_assign site) (receivers pc) instruction
  pub concrete : (method : MethodRef) → instruction ≡ op.InvokeSpecial method → is_constructor method.name ≡ false → (above : Option Name) → IsBehindSuper site method above → means_abstract site above method.name (Some (exact (parameters_of method.descriptor))) ≡ false
  pub born : (method : MethodRef) → instruction ≡ op.InvokeSpecial method → is_constructor method.name ≡ true → receivers pc ≡ Made
  pub named : IsNamed site instruction
