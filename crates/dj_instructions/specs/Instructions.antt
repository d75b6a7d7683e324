-- The instructions of a method's code as plain data, by the offsets at which they begin (JVMS 4.7.3, 4.9.1, 6.5).
use Rattle.std.specs.Prelude.{◌≡◌, ℕ, ◌+◌, ◌≤◌, ◌==◌, if◌then◌else◌, ℤ, Bool, List, [], ◌∷◌, Option, Some, None, map}
use Rattle.dj_names.specs.declared.members.Constant.{Constant}
use Rattle.dj_names.specs.Types.{JType, Descriptor, view_type, view_descriptor}
use Rattle.dj_instructions.specs.declared.kinds.Kind.{Kind}
use Rattle.dj_instructions.specs.declared.kinds.Element.{Element}
use Rattle.dj_instructions.specs.declared.kinds.Calc as calc
use Rattle.dj_instructions.specs.declared.kinds.Test.{Test}
use Rattle.dj_instructions.specs.declared.references.FieldRef as code_field
use Rattle.dj_instructions.specs.declared.references.MethodRef as code_method
use Rattle.dj_instructions.specs.declared.instruction.Instruction as declared
use Rattle.dj_instructions.specs.declared.instruction.Instruction.TheVariants as code

-- a field by the class or array type that it is looked for in, its name and its type (JVMS 4.4.2)
pub record FieldRef : Type 0 where
  pub owner : JType
  pub name : List ℕ
  pub kind : JType

-- a method likewise, and whether its entry is an InterfaceMethodref (JVMS 4.4.2)
pub record MethodRef : Type 0 where
  pub owner : JType
  pub interface : Bool
  pub name : List ℕ
  pub descriptor : Descriptor

-- an instruction; its short, long and wide forms are one value, and targets are pcs
pub data Instruction : Type 0 where
  Nop : Instruction
  PushNull : Instruction
  Push : Constant → Instruction
  PushClass : JType → Instruction
  PushHandle : ℕ → Bool → JType → List ℕ → Descriptor → Instruction
  PushMethodType : Descriptor → Instruction
  Load : Kind → ℕ → Instruction
  Store : Kind → ℕ → Instruction
  ArrayLoad : Element → Instruction
  ArrayStore : Element → Instruction
  Pop : Instruction
  Pop2 : Instruction
  Dup : Instruction
  DupX1 : Instruction
  DupX2 : Instruction
  Dup2 : Instruction
  Dup2X1 : Instruction
  Dup2X2 : Instruction
  Swap : Instruction
  Calc : calc.Calc → Kind → Instruction
  Iinc : ℕ → ℤ → Instruction
  Convert : Kind → JType → Instruction
  Compare : Kind → Bool → Instruction
  IfZero : Test → ℕ → Instruction
  IfInts : Test → ℕ → Instruction
  IfRefs : Bool → ℕ → Instruction
  IfNull : Bool → ℕ → Instruction
  Goto : ℕ → Instruction
  TableSwitch : ℤ → List ℕ → ℕ → Instruction
  LookupSwitch : List (ℤ × ℕ) → ℕ → Instruction
  Return : Option Kind → Instruction
  GetStatic : FieldRef → Instruction
  PutStatic : FieldRef → Instruction
  GetField : FieldRef → Instruction
  PutField : FieldRef → Instruction
  InvokeVirtual : MethodRef → Instruction
  InvokeSpecial : MethodRef → Instruction
  InvokeStatic : MethodRef → Instruction
  InvokeInterface : MethodRef → Instruction
  InvokeDynamic : ℕ → List ℕ → Descriptor → Instruction
  New : List ℕ → Instruction
  NewArray : JType → Instruction
  MultiNewArray : JType → ℕ → Instruction
  ArrayLength : Instruction
  Throw : Instruction
  CheckCast : JType → Instruction
  InstanceOf : JType → Instruction
  MonitorEnter : Instruction
  MonitorExit : Instruction

-- a field of the code, seen as plain data
abbrev pub view_field_ref : code_field.FieldRef → FieldRef
view_field_ref field = record { owner = view_type field.owner; name = field.name; kind = view_type field.kind }

-- a method of the code, seen as plain data
abbrev pub view_method_ref : code_method.MethodRef → MethodRef
view_method_ref method = record { owner = view_type method.owner; interface = method.interface; name = method.name; descriptor = view_descriptor method.descriptor }

-- an instruction of the code, seen as plain data
abbrev pub view_instruction : declared.Instruction → Instruction
view_instruction code.Nop = Nop
view_instruction code.PushNull = PushNull
view_instruction (code.Push constant) = Push constant
view_instruction (code.PushClass class) = PushClass (view_type class)
view_instruction (code.PushHandle kind interface owner name descriptor) = PushHandle kind interface (view_type owner) name (view_descriptor descriptor)
view_instruction (code.PushMethodType descriptor) = PushMethodType (view_descriptor descriptor)
view_instruction (code.Load kind slot) = Load kind slot
view_instruction (code.Store kind slot) = Store kind slot
view_instruction (code.ArrayLoad element) = ArrayLoad element
view_instruction (code.ArrayStore element) = ArrayStore element
view_instruction code.Pop = Pop
view_instruction code.Pop2 = Pop2
view_instruction code.Dup = Dup
view_instruction code.DupX1 = DupX1
view_instruction code.DupX2 = DupX2
view_instruction code.Dup2 = Dup2
view_instruction code.Dup2X1 = Dup2X1
view_instruction code.Dup2X2 = Dup2X2
view_instruction code.Swap = Swap
view_instruction (code.Calc operation kind) = Calc operation kind
view_instruction (code.Iinc slot by) = Iinc slot by
view_instruction (code.Convert from to) = Convert from (view_type to)
view_instruction (code.Compare kind greater) = Compare kind greater
view_instruction (code.IfZero test target) = IfZero test target
view_instruction (code.IfInts test target) = IfInts test target
view_instruction (code.IfRefs equal target) = IfRefs equal target
view_instruction (code.IfNull null target) = IfNull null target
view_instruction (code.Goto target) = Goto target
view_instruction (code.TableSwitch low targets other) = TableSwitch low targets other
view_instruction (code.LookupSwitch cases other) = LookupSwitch cases other
view_instruction (code.Return kind) = Return kind
view_instruction (code.GetStatic field) = GetStatic (view_field_ref field)
view_instruction (code.PutStatic field) = PutStatic (view_field_ref field)
view_instruction (code.GetField field) = GetField (view_field_ref field)
view_instruction (code.PutField field) = PutField (view_field_ref field)
view_instruction (code.InvokeVirtual method) = InvokeVirtual (view_method_ref method)
view_instruction (code.InvokeSpecial method) = InvokeSpecial (view_method_ref method)
view_instruction (code.InvokeStatic method) = InvokeStatic (view_method_ref method)
view_instruction (code.InvokeInterface method) = InvokeInterface (view_method_ref method)
view_instruction (code.InvokeDynamic bootstrap name descriptor) = InvokeDynamic bootstrap name (view_descriptor descriptor)
view_instruction (code.New class) = New class
view_instruction (code.NewArray element) = NewArray (view_type element)
view_instruction (code.MultiNewArray class sizes) = MultiNewArray (view_type class) sizes
view_instruction code.ArrayLength = ArrayLength
view_instruction code.Throw = Throw
view_instruction (code.CheckCast class) = CheckCast (view_type class)
view_instruction (code.InstanceOf class) = InstanceOf (view_type class)
view_instruction code.MonitorEnter = MonitorEnter
view_instruction code.MonitorExit = MonitorExit

-- instructions, each with the offset at which it begins
abbrev pub Instructions : Type 0
Instructions = List (ℕ × Instruction)

-- instructions of the code, seen as plain data
abbrev pub view_instructions : List (ℕ × declared.Instruction) → Instructions
view_instructions = map (λ x. (x.0, view_instruction x.1))

-- the instruction that begins at this offset, None where none does
abbrev pub instruction_at : Instructions → ℕ → Option Instruction
instruction_at [] pc = None
instruction_at (first ∷ rest) pc = if first.0 == pc then Some first.1 else instruction_at rest pc

-- the offsets rise, none of them below this one
abbrev pub IsRisingFrom : ℕ → Instructions → Type 0
IsRisingFrom least [] = Unit {0}
IsRisingFrom least (first ∷ rest) = (least ≤ first.0) × IsRisingFrom (first.0 + 1) rest

-- the first instruction stands at offset 0, and each other one behind the one before it
abbrev pub IsRising : Instructions → Type 0
IsRising [] = Unit {0}
IsRising (first ∷ rest) = (first.0 ≡ 0) × IsRisingFrom 1 rest
