-- Which classes, fields and methods code names (JVMS 4.3, 4.7.3, 4.7.4, 6.5), and which of these names keep it from being printed (JLS 6.4.2, 6.5).
use Rattle.std.specs.Prelude.{◌≡◌, ◌⊎◌, Some, Any, Contains}
use Rattle.dj_names.specs.Headers.{Name, names}
use Rattle.dj_names.specs.Identifiers.{IsIdentifier}
use Rattle.dj_instructions.specs.Instructions.{FieldRef, MethodRef, Instruction, Nop, PushNull, Push, PushClass, PushHandle, PushMethodType, Load, Store, ArrayLoad, ArrayStore, Pop, Pop2, Dup, DupX1, DupX2, Dup2, Dup2X1, Dup2X2, Swap, Calc, Iinc, Convert, Compare, IfZero, IfInts, IfRefs, IfNull, Goto, TableSwitch, LookupSwitch, Return, GetStatic, PutStatic, GetField, PutField, InvokeVirtual, InvokeSpecial, InvokeStatic, InvokeInterface, InvokeDynamic, New, NewArray, MultiNewArray, ArrayLength, Throw, CheckCast, InstanceOf, MonitorEnter, MonitorExit}
use Rattle.dj_frames.specs.Frames.{Tag, Top, Int, Float, Double, Long, Null, UnbornThis, Object, Unborn, Frame}
use Rattle.dj_code.specs.MethodCode.{Code}
use Rattle.dj_world.specs.Named.{class_of, NamesClass}
use Rattle.dj_world.specs.Worlds.{WorldOf}
use Rattle.dj_sayable.specs.Above.{IsAtOrAbove}
use Rattle.dj_causes.specs.ClassCauses.{IsSaid}
use Rattle.dj_causes.specs.BareCauses.{IsMethodName, core_names}

-- ---- classes

-- a field names a class: it is looked for in it, or is of its type
abbrev pub IsInField : FieldRef → Name → Type 0
IsInField field name = (class_of field.owner ≡ Some name) ⊎ (class_of field.kind ≡ Some name)

-- a method names a class: it is looked for in it, or has it in its descriptor
abbrev pub IsInMethod : MethodRef → Name → Type 0
IsInMethod method name = (class_of method.owner ≡ Some name) ⊎ NamesClass method.descriptor name

-- an instruction names a class
abbrev pub IsInInstruction : Instruction → Name → Type 0
IsInInstruction Nop name = ⊥
IsInInstruction PushNull name = ⊥
IsInInstruction (Push constant) name = ⊥
IsInInstruction (PushClass class) name = class_of class ≡ Some name
IsInInstruction (PushHandle kind interface owner member descriptor) name = (class_of owner ≡ Some name) ⊎ NamesClass descriptor name
IsInInstruction (PushMethodType descriptor) name = NamesClass descriptor name
IsInInstruction (Load kind slot) name = ⊥
IsInInstruction (Store kind slot) name = ⊥
IsInInstruction (ArrayLoad element) name = ⊥
IsInInstruction (ArrayStore element) name = ⊥
IsInInstruction Pop name = ⊥
IsInInstruction Pop2 name = ⊥
IsInInstruction Dup name = ⊥
IsInInstruction DupX1 name = ⊥
IsInInstruction DupX2 name = ⊥
IsInInstruction Dup2 name = ⊥
IsInInstruction Dup2X1 name = ⊥
IsInInstruction Dup2X2 name = ⊥
IsInInstruction Swap name = ⊥
IsInInstruction (Calc operation kind) name = ⊥
IsInInstruction (Iinc slot by) name = ⊥
IsInInstruction (Convert from to) name = ⊥
IsInInstruction (Compare kind greater) name = ⊥
IsInInstruction (IfZero test target) name = ⊥
IsInInstruction (IfInts test target) name = ⊥
IsInInstruction (IfRefs equal target) name = ⊥
IsInInstruction (IfNull null target) name = ⊥
IsInInstruction (Goto target) name = ⊥
IsInInstruction (TableSwitch low targets other) name = ⊥
IsInInstruction (LookupSwitch cases other) name = ⊥
IsInInstruction (Return kind) name = ⊥
IsInInstruction (GetStatic field) name = IsInField field name
IsInInstruction (PutStatic field) name = IsInField field name
IsInInstruction (GetField field) name = IsInField field name
IsInInstruction (PutField field) name = IsInField field name
IsInInstruction (InvokeVirtual method) name = IsInMethod method name
IsInInstruction (InvokeSpecial method) name = IsInMethod method name
IsInInstruction (InvokeStatic method) name = IsInMethod method name
IsInInstruction (InvokeInterface method) name = IsInMethod method name
IsInInstruction (InvokeDynamic bootstrap member descriptor) name = NamesClass descriptor name
IsInInstruction (New class) name = class ≡ name
IsInInstruction (NewArray element) name = class_of element ≡ Some name
IsInInstruction (MultiNewArray class sizes) name = class_of class ≡ Some name
IsInInstruction ArrayLength name = ⊥
IsInInstruction Throw name = ⊥
IsInInstruction (CheckCast class) name = class_of class ≡ Some name
IsInInstruction (InstanceOf class) name = class_of class ≡ Some name
IsInInstruction MonitorEnter name = ⊥
IsInInstruction MonitorExit name = ⊥

-- a tag of a frame names a class
abbrev pub IsInTag : Tag → Name → Type 0
IsInTag Top name = ⊥
IsInTag Int name = ⊥
IsInTag Float name = ⊥
IsInTag Double name = ⊥
IsInTag Long name = ⊥
IsInTag Null name = ⊥
IsInTag UnbornThis name = ⊥
IsInTag (Object type) name = class_of type ≡ Some name
IsInTag (Unborn pc) name = ⊥

-- a frame does
abbrev pub IsInFrame : Frame → Name → Type 0
IsInFrame frame name = Any (λ tag. IsInTag tag name) frame.locals ⊎ Any (λ tag. IsInTag tag name) frame.stack

-- code names a class: its own, in its descriptor, among those that it declares to throw, in an instruction, in a frame that is given, or as one that a handler takes; or each code does
pub data IsInCode (code : Code) (name : Name) : Type 0 where
  of_class : code.class ≡ name → IsInCode code name
  in_descriptor : NamesClass code.descriptor name → IsInCode code name
  in_thrown : Contains code.thrown name → IsInCode code name
  in_instruction : Any (λ at. IsInInstruction at.1 name) code.instructions → IsInCode code name
  in_frame : Any (λ at. IsInFrame at.1 name) code.frames → IsInCode code name
  in_handler : Any (λ handler. handler.class ≡ Some name) code.handlers → IsInCode code name
  of_core : Contains core_names name → IsInCode code name

-- one of these classes, or one above it
abbrev pub IsAboveCode : WorldOf → Code → Name → Type 0
IsAboveCode world code = IsAtOrAbove world.headers (IsInCode code)

-- one of them isn't in the world
pub record IsMissing (world : WorldOf) (code : Code) (name : Name) : Type 0 where
  pub above : IsAboveCode world code name
  pub absent : ¬ Contains (names world.headers) name

-- ---- names

-- an instruction names a member by this name, which no text can say
abbrev pub IsUnsaidMember : Instruction → Name → Type 0
IsUnsaidMember Nop name = ⊥
IsUnsaidMember PushNull name = ⊥
IsUnsaidMember (Push constant) name = ⊥
IsUnsaidMember (PushClass class) name = ⊥
IsUnsaidMember (PushHandle kind interface owner member descriptor) name = ⊥
IsUnsaidMember (PushMethodType descriptor) name = ⊥
IsUnsaidMember (Load kind slot) name = ⊥
IsUnsaidMember (Store kind slot) name = ⊥
IsUnsaidMember (ArrayLoad element) name = ⊥
IsUnsaidMember (ArrayStore element) name = ⊥
IsUnsaidMember Pop name = ⊥
IsUnsaidMember Pop2 name = ⊥
IsUnsaidMember Dup name = ⊥
IsUnsaidMember DupX1 name = ⊥
IsUnsaidMember DupX2 name = ⊥
IsUnsaidMember Dup2 name = ⊥
IsUnsaidMember Dup2X1 name = ⊥
IsUnsaidMember Dup2X2 name = ⊥
IsUnsaidMember Swap name = ⊥
IsUnsaidMember (Calc operation kind) name = ⊥
IsUnsaidMember (Iinc slot by) name = ⊥
IsUnsaidMember (Convert from to) name = ⊥
IsUnsaidMember (Compare kind greater) name = ⊥
IsUnsaidMember (IfZero test target) name = ⊥
IsUnsaidMember (IfInts test target) name = ⊥
IsUnsaidMember (IfRefs equal target) name = ⊥
IsUnsaidMember (IfNull null target) name = ⊥
IsUnsaidMember (Goto target) name = ⊥
IsUnsaidMember (TableSwitch low targets other) name = ⊥
IsUnsaidMember (LookupSwitch cases other) name = ⊥
IsUnsaidMember (Return kind) name = ⊥
IsUnsaidMember (GetStatic field) name = ¬ IsIdentifier field.name × (name ≡ field.name)
IsUnsaidMember (PutStatic field) name = ¬ IsIdentifier field.name × (name ≡ field.name)
IsUnsaidMember (GetField field) name = ¬ IsIdentifier field.name × (name ≡ field.name)
IsUnsaidMember (PutField field) name = ¬ IsIdentifier field.name × (name ≡ field.name)
IsUnsaidMember (InvokeVirtual method) name = ¬ IsMethodName method.name × (name ≡ method.name)
IsUnsaidMember (InvokeSpecial method) name = ¬ IsMethodName method.name × (name ≡ method.name)
IsUnsaidMember (InvokeStatic method) name = ¬ IsMethodName method.name × (name ≡ method.name)
IsUnsaidMember (InvokeInterface method) name = ¬ IsMethodName method.name × (name ≡ method.name)
IsUnsaidMember (InvokeDynamic bootstrap member descriptor) name = ⊥
IsUnsaidMember (New class) name = ⊥
IsUnsaidMember (NewArray element) name = ⊥
IsUnsaidMember (MultiNewArray class sizes) name = ⊥
IsUnsaidMember ArrayLength name = ⊥
IsUnsaidMember Throw name = ⊥
IsUnsaidMember (CheckCast class) name = ⊥
IsUnsaidMember (InstanceOf class) name = ⊥
IsUnsaidMember MonitorEnter name = ⊥
IsUnsaidMember MonitorExit name = ⊥

-- a name that can't be said: the method's own, that of a member that an instruction names, or that of one of the classes
pub data IsUnsaidIn (world : WorldOf) (code : Code) (name : Name) : Type 0 where
  own_name : ¬ IsMethodName code.name → name ≡ code.name → IsUnsaidIn world code name
  member_name : Any (λ at. IsUnsaidMember at.1 name) code.instructions → IsUnsaidIn world code name
  class_name : IsAboveCode world code name → ¬ IsSaid world code.class name → IsUnsaidIn world code name
