-- Which instructions work on floats and doubles, or name a type that has one in it (JVMS 2.3.2, 4.3).
use Rattle.std.specs.Prelude.{◌≡◌, ◌⊎◌, ℕ, Bool, true, false, ◌||◌, Option, Some, None}
use Rattle.std.specs.List.{list_any}
use Rattle.dj_names.specs.declared.members.Constant.{Constant}
use Rattle.dj_names.specs.declared.members.Constant.TheVariants as constant
use Rattle.dj_names.specs.Types.{JType, Boolean, Byte, Char, Short, Int, Long, Float, Double, Class, Array, Descriptor, Field, Method}
use Rattle.dj_instructions.specs.declared.kinds.Kind as kind_type
use Rattle.dj_instructions.specs.declared.kinds.Kind.TheVariants as kind
use Rattle.dj_instructions.specs.declared.kinds.Element as element_type
use Rattle.dj_instructions.specs.declared.kinds.Element.TheVariants as element
use Rattle.dj_instructions.specs.Instructions.{FieldRef, MethodRef, Instruction, Nop, PushNull, Push, PushClass, PushHandle, PushMethodType, Load, Store, ArrayLoad, ArrayStore, Pop, Pop2, Dup, DupX1, DupX2, Dup2, Dup2X1, Dup2X2, Swap, Calc, Iinc, Convert, Compare, IfZero, IfInts, IfRefs, IfNull, Goto, TableSwitch, LookupSwitch, Return, GetStatic, PutStatic, GetField, PutField, InvokeVirtual, InvokeSpecial, InvokeStatic, InvokeInterface, InvokeDynamic, New, NewArray, MultiNewArray, ArrayLength, Throw, CheckCast, InstanceOf, MonitorEnter, MonitorExit}
use Rattle.dj_code.specs.MethodCode.{Code}
use Rattle.dj_code_causes.specs.Places.{IsOne}

-- a float or a double, or an array with such innermost elements
abbrev pub has_float : JType → Bool
has_float Boolean = false
has_float Byte = false
has_float Char = false
has_float Short = false
has_float Int = false
has_float Long = false
has_float Float = true
has_float Double = true
has_float (Class name) = false
has_float (Array element) = has_float element

-- a result that has one
abbrev pub gives_float : Option JType → Bool
gives_float None = false
gives_float (Some type) = has_float type

-- a descriptor that has one
abbrev pub spells_float : Descriptor → Bool
spells_float (Field type) = has_float type
spells_float (Method parameters result) = list_any has_float parameters || gives_float result

-- a constant that is one
abbrev pub is_float_constant : Constant → Bool
is_float_constant (constant.Int number) = false
is_float_constant (constant.Long number) = false
is_float_constant (constant.Text units) = false
is_float_constant (constant.Float bits) = true
is_float_constant (constant.Double bits) = true

-- a kind of values that has one
abbrev pub is_float_kind : kind_type.Kind → Bool
is_float_kind kind.Int = false
is_float_kind kind.Long = false
is_float_kind kind.Float = true
is_float_kind kind.Double = true
is_float_kind kind.Ref = false

-- the kind of a return that has one
abbrev pub returns_float : Option kind_type.Kind → Bool
returns_float None = false
returns_float (Some kind) = is_float_kind kind

-- elements of arrays that are
abbrev pub is_float_element : element_type.Element → Bool
is_float_element element.Int = false
is_float_element element.Long = false
is_float_element element.Float = true
is_float_element element.Double = true
is_float_element element.Ref = false
is_float_element element.Byte = false
is_float_element element.Char = false
is_float_element element.Short = false

-- a field whose owner or type has one
abbrev pub names_float : FieldRef → Bool
names_float field = has_float field.owner || has_float field.kind

-- a method whose owner or descriptor has one
abbrev pub calls_float : MethodRef → Bool
calls_float method = has_float method.owner || spells_float method.descriptor

-- an instruction works on a float or a double, or names a type or a descriptor that has one
abbrev pub works_on_float : Instruction → Bool
works_on_float Nop = false
works_on_float PushNull = false
works_on_float (Push constant) = is_float_constant constant
works_on_float (PushClass class) = has_float class
works_on_float (PushHandle kind interface owner name descriptor) = has_float owner || spells_float descriptor
works_on_float (PushMethodType descriptor) = spells_float descriptor
works_on_float (Load kind slot) = is_float_kind kind
works_on_float (Store kind slot) = is_float_kind kind
works_on_float (ArrayLoad element) = is_float_element element
works_on_float (ArrayStore element) = is_float_element element
works_on_float Pop = false
works_on_float Pop2 = false
works_on_float Dup = false
works_on_float DupX1 = false
works_on_float DupX2 = false
works_on_float Dup2 = false
works_on_float Dup2X1 = false
works_on_float Dup2X2 = false
works_on_float Swap = false
works_on_float (Calc operation kind) = is_float_kind kind
works_on_float (Iinc slot by) = false
works_on_float (Convert from to) = is_float_kind from || has_float to
works_on_float (Compare kind greater) = is_float_kind kind
works_on_float (IfZero test target) = false
works_on_float (IfInts test target) = false
works_on_float (IfRefs equal target) = false
works_on_float (IfNull null target) = false
works_on_float (Goto target) = false
works_on_float (TableSwitch low targets other) = false
works_on_float (LookupSwitch cases other) = false
works_on_float (Return kind) = returns_float kind
works_on_float (GetStatic field) = names_float field
works_on_float (PutStatic field) = names_float field
works_on_float (GetField field) = names_float field
works_on_float (PutField field) = names_float field
works_on_float (InvokeVirtual method) = calls_float method
works_on_float (InvokeSpecial method) = calls_float method
works_on_float (InvokeStatic method) = calls_float method
works_on_float (InvokeInterface method) = calls_float method
works_on_float (InvokeDynamic bootstrap name descriptor) = spells_float descriptor
works_on_float (New class) = false
works_on_float (NewArray element) = has_float element
works_on_float (MultiNewArray class sizes) = has_float class
works_on_float ArrayLength = false
works_on_float Throw = false
works_on_float (CheckCast class) = has_float class
works_on_float (InstanceOf class) = has_float class
works_on_float MonitorEnter = false
works_on_float MonitorExit = false

-- floats keep the method from being printed at this offset: at 0 where its own descriptor has one, and at each such instruction
abbrev pub HasFloatAt : Code → ℕ → Type 0
HasFloatAt code pc = ((pc ≡ 0) × (spells_float code.descriptor ≡ true)) ⊎ IsOne works_on_float code.instructions pc
