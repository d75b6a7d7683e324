-- Which values of instructions an opcode spells (JVMS 4.9.1, 6.5): a value may combine what none does.
use Rattle.std.specs.Prelude.{ℕ, nat_le, Bool, true, false, ◌&&◌, not, ℤ, pos, ◌+ℤ◌, int_le, ◌==◌, List, length}
use Rattle.std.specs.Int.{is_in_range}
use Rattle.dj_names.specs.Types.{JType, Boolean, Byte, Char, Short, Int, Long, Float, Double, Class, Array, Descriptor, Field, Method}
use Rattle.dj_names.specs.Descriptors.{dimensions}
use Rattle.dj_names.specs.MethodNames.{is_initialiser}
use Rattle.dj_instructions.specs.declared.kinds.Kind.{Kind}
use Rattle.dj_instructions.specs.declared.kinds.Kind.TheVariants as kind
use Rattle.dj_instructions.specs.declared.kinds.Calc as calc_type
use Rattle.dj_instructions.specs.declared.kinds.Calc.TheVariants as calc
use Rattle.dj_instructions.specs.Jumps.{do_rise}
use Rattle.dj_instructions.specs.PoolMeanings.{is_plain_name}
use Rattle.dj_instructions.specs.Instructions.{MethodRef, Instruction, Nop, PushNull, Push, PushClass, PushHandle, PushMethodType, Load, Store, ArrayLoad, ArrayStore, Pop, Pop2, Dup, DupX1, DupX2, Dup2, Dup2X1, Dup2X2, Swap, Calc, Iinc, Convert, Compare, IfZero, IfInts, IfRefs, IfNull, Goto, TableSwitch, LookupSwitch, Return, GetStatic, PutStatic, GetField, PutField, InvokeVirtual, InvokeSpecial, InvokeStatic, InvokeInterface, InvokeDynamic, New, NewArray, MultiNewArray, ArrayLength, Throw, CheckCast, InstanceOf, MonitorEnter, MonitorExit}

-- a type that a Class entry names: a class or interface, or an array
abbrev pub is_named : JType → Bool
is_named Boolean = false
is_named Byte = false
is_named Char = false
is_named Short = false
is_named Int = false
is_named Long = false
is_named Float = false
is_named Double = false
is_named (Class name) = true
is_named (Array element) = true

-- a method's descriptor
abbrev pub is_method : Descriptor → Bool
is_method (Field kind) = false
is_method (Method parameters result) = true

-- a kind of numbers
abbrev pub is_number : Kind → Bool
is_number kind.Int = true
is_number kind.Long = true
is_number kind.Float = true
is_number kind.Double = true
is_number kind.Ref = false

-- a kind of numbers that are kept as bits
abbrev pub is_whole_number : Kind → Bool
is_whole_number kind.Int = true
is_whole_number kind.Long = true
is_whole_number kind.Float = false
is_whole_number kind.Double = false
is_whole_number kind.Ref = false

-- the kinds that a calculation has
abbrev pub has_calc : calc_type.Calc → Kind → Bool
has_calc calc.Add kind = is_number kind
has_calc calc.Sub kind = is_number kind
has_calc calc.Mul kind = is_number kind
has_calc calc.Div kind = is_number kind
has_calc calc.Rem kind = is_number kind
has_calc calc.Neg kind = is_number kind
has_calc calc.Shl kind = is_whole_number kind
has_calc calc.Shr kind = is_whole_number kind
has_calc calc.Ushr kind = is_whole_number kind
has_calc calc.And kind = is_whole_number kind
has_calc calc.Or kind = is_whole_number kind
has_calc calc.Xor kind = is_whole_number kind

-- the place of a kind in the order of opcodes (JVMS 2.11.1)
abbrev pub place_of : Kind → ℕ
place_of kind.Int = 0
place_of kind.Long = 1
place_of kind.Float = 2
place_of kind.Double = 3
place_of kind.Ref = 4

-- two kinds are the same
abbrev pub is_kind : Kind → Kind → Bool
is_kind first second = place_of first == place_of second

-- one kind of numbers, and another
abbrev pub are_two_numbers : Kind → Kind → Bool
are_two_numbers from to = is_number from && not (is_kind from to)

-- the conversions that there are: `i2l` to `i2s`
abbrev pub has_conversion : Kind → JType → Bool
has_conversion from Boolean = false
has_conversion from Byte = is_kind from kind.Int
has_conversion from Char = is_kind from kind.Int
has_conversion from Short = is_kind from kind.Int
has_conversion from Int = are_two_numbers from kind.Int
has_conversion from Long = are_two_numbers from kind.Long
has_conversion from Float = are_two_numbers from kind.Float
has_conversion from Double = are_two_numbers from kind.Double
has_conversion from (Class name) = false
has_conversion from (Array element) = false

-- the comparisons that there are: `lcmp`, and two of floats and of doubles
abbrev pub has_comparison : Kind → Bool → Bool
has_comparison kind.Int greater = false
has_comparison kind.Long greater = not greater
has_comparison kind.Float greater = true
has_comparison kind.Double greater = true
has_comparison kind.Ref greater = false

-- a `tableswitch` has a key or more, and each is an int
abbrev pub has_keys : ℤ → List ℕ → Bool
has_keys low targets = nat_le 1 (length targets) && int_le (low +ℤ pos (length targets)) (pos 2147483648)

-- a method of a class or an array type, with a method's descriptor
abbrev pub is_method_of : MethodRef → Bool
is_method_of method = is_named method.owner && is_method method.descriptor

-- an opcode spells the instruction
abbrev pub is_spelled : Instruction → Bool
is_spelled Nop = true
is_spelled PushNull = true
is_spelled (Push constant) = true
is_spelled (PushClass class) = is_named class
is_spelled (PushHandle kind interface owner name descriptor) = is_named owner
is_spelled (PushMethodType descriptor) = is_method descriptor
is_spelled (Load kind slot) = true
is_spelled (Store kind slot) = true
is_spelled (ArrayLoad element) = true
is_spelled (ArrayStore element) = true
is_spelled Pop = true
is_spelled Pop2 = true
is_spelled Dup = true
is_spelled DupX1 = true
is_spelled DupX2 = true
is_spelled Dup2 = true
is_spelled Dup2X1 = true
is_spelled Dup2X2 = true
is_spelled Swap = true
is_spelled (Calc operation kind) = has_calc operation kind
is_spelled (Iinc slot by) = true
is_spelled (Convert from to) = has_conversion from to
is_spelled (Compare kind greater) = has_comparison kind greater
is_spelled (IfZero test target) = true
is_spelled (IfInts test target) = true
is_spelled (IfRefs equal target) = true
is_spelled (IfNull null target) = true
is_spelled (Goto target) = true
is_spelled (TableSwitch low targets other) = has_keys low targets
is_spelled (LookupSwitch cases other) = do_rise cases
is_spelled (Return kind) = true
is_spelled (GetStatic field) = is_named field.owner
is_spelled (PutStatic field) = is_named field.owner
is_spelled (GetField field) = is_named field.owner
is_spelled (PutField field) = is_named field.owner
is_spelled (InvokeVirtual method) = is_method_of method && is_plain_name method.name && not method.interface
is_spelled (InvokeSpecial method) = is_method_of method && not (is_initialiser method.name)
is_spelled (InvokeStatic method) = is_method_of method && is_plain_name method.name
is_spelled (InvokeInterface method) = is_method_of method && is_plain_name method.name && method.interface
is_spelled (InvokeDynamic bootstrap name descriptor) = is_method descriptor && is_plain_name name
is_spelled (New class) = true
is_spelled (NewArray element) = nat_le (dimensions element) 254
is_spelled (MultiNewArray class sizes) = is_in_range 1 (dimensions class) sizes
is_spelled ArrayLength = true
is_spelled Throw = true
is_spelled (CheckCast class) = is_named class
is_spelled (InstanceOf class) = is_named class
is_spelled MonitorEnter = true
is_spelled MonitorExit = true
