-- What each instruction does, by families (JVMS 2.11, 6.5).
use Rattle.std.specs.Prelude.{ℤ, pos, ℕ, ◌+◌, not, true, false, length, List, [], ◌∷◌, Option, Some, None}
use Rattle.std.specs.Int.{w32, w64, int_wrap, int_wrapping_neg}
use Rattle.dj_names.specs.declared.header.Header.{Header}
use Rattle.dj_names.specs.Headers.{Name}
use Rattle.dj_names.specs.Types as types
use Rattle.dj_names.specs.Types.{JType, Boolean, Byte, Char, Short, Float, Double, Class, Array, Descriptor, parameters_of}
use Rattle.dj_names.specs.declared.members.Constant.{Constant}
use Rattle.dj_names.specs.declared.members.Constant.TheVariants as constant
use Rattle.dj_values.specs.Values.{Value, Int, Long, Null, Ref, Virtual, Interface, Special, ClassConstant, New}
use Rattle.dj_values.specs.Outcomes.{Stuck, Reply, Gives, Halts, then_on, ask}
use Rattle.dj_instructions.specs.declared.kinds.Kind.{Kind}
use Rattle.dj_instructions.specs.declared.kinds.Kind.TheVariants as kind
use Rattle.dj_instructions.specs.declared.kinds.Calc.{Calc}
use Rattle.dj_instructions.specs.declared.kinds.Calc.TheVariants as calc
use Rattle.dj_instructions.specs.Instructions.{Instruction}
use Rattle.dj_instructions.specs.Instructions as op
use Rattle.dj_bytecode.specs.Operands.{with_one, with_two, with_int, with_reference, of_kind, narrowed, fitted}
use Rattle.dj_bytecode.specs.Calculations.{calculated, long_calculated, on_int, on_long, on_ints, on_longs, on_long_and_int, compared, holds, led, in_table, in_cases}
use Rattle.dj_bytecode.specs.Shuffles.{Form, pop_forms, pop2_forms, dup_forms, dup_x1_forms, dup_x2_forms, dup2_forms, dup2_x1_forms, dup2_x2_forms, swap_forms}
use Rattle.dj_bytecode.specs.Objects.{static_read, static_written, field_read, field_written, element_read, element_written, length_read, array_made, special_owner, static_called, object_called, cast_to, is_of, truth, is_same_reference, text_reference, thrown_out, entered, left}

-- how an instruction works: a strict one takes so many values from the stack, and pushes what an operation on them gives, if it gives one;
-- a shuffle puts values of the stack elsewhere; others push a local as a value of a kind, store one, or add to an int there;
-- a jump takes so many values, and they tell where it leads, None for the instruction behind it;
-- a return takes what the method's result and the stack give; before what the machine doesn't run a run goes on and shows nothing more
pub data Family : Type 0 where
  Strict : ℕ → (List Value → Reply (Option Value)) → Family
  Moves : List Form → Family
  Loads : (Value → Reply Value) → ℕ → Family
  Stores : (Value → Reply Value) → ℕ → Family
  Counts : ℕ → ℤ → Family
  Leads : ℕ → (List Value → Reply (Option ℕ)) → Family
  Returns : (Option JType → List Value → Reply (Option Value)) → Family
  NotRun : Family

-- no value is a float or double, so that none is there to work on
abbrev pub no_operand : {A : Type 0} → List Value → Reply A
no_operand operands = Halts Stuck

-- ---- results

-- what `return` gives a method with this result; a return of another form than its result's is stuck
abbrev pub returned_nothing : Option JType → List Value → Reply (Option Value)
returned_nothing None stack = Gives None
returned_nothing (Some type) stack = Halts Stuck

-- and what a return of a value of a kind gives
abbrev pub returned_value : Kind → Option JType → List Value → Reply (Option Value)
returned_value kind None stack = Halts Stuck
returned_value kind (Some type) [] = Halts Stuck
returned_value kind (Some type) (top ∷ below) = then_on (of_kind kind top) (λ value. then_on (fitted type value) (λ kept. Gives (Some kept)))

-- ---- constants, arithmetic, conversions

-- a constant; a float or double isn't run
abbrev pub constant_pushed : Constant → Family
constant_pushed (constant.Int number) = Strict 0 (λ operands. Gives (Some (Int number)))
constant_pushed (constant.Long number) = Strict 0 (λ operands. Gives (Some (Long number)))
constant_pushed (constant.Text units) = Strict 0 (λ operands. Gives (Some (Ref (text_reference units))))
constant_pushed (constant.Float bits) = NotRun
constant_pushed (constant.Double bits) = NotRun

-- arithmetic on ints
abbrev pub int_calculation : Calc → Family
int_calculation calc.Add = Strict 2 (on_ints (calculated w32 calc.Add))
int_calculation calc.Sub = Strict 2 (on_ints (calculated w32 calc.Sub))
int_calculation calc.Mul = Strict 2 (on_ints (calculated w32 calc.Mul))
int_calculation calc.Div = Strict 2 (on_ints (calculated w32 calc.Div))
int_calculation calc.Rem = Strict 2 (on_ints (calculated w32 calc.Rem))
int_calculation calc.Neg = Strict 1 (on_int (λ number. Gives (Int (int_wrapping_neg w32 number))))
int_calculation calc.Shl = Strict 2 (on_ints (calculated w32 calc.Shl))
int_calculation calc.Shr = Strict 2 (on_ints (calculated w32 calc.Shr))
int_calculation calc.Ushr = Strict 2 (on_ints (calculated w32 calc.Ushr))
int_calculation calc.And = Strict 2 (on_ints (calculated w32 calc.And))
int_calculation calc.Or = Strict 2 (on_ints (calculated w32 calc.Or))
int_calculation calc.Xor = Strict 2 (on_ints (calculated w32 calc.Xor))

-- arithmetic on longs; a shift's distance is an int
abbrev pub long_calculation : Calc → Family
long_calculation calc.Add = Strict 2 (on_longs (long_calculated calc.Add))
long_calculation calc.Sub = Strict 2 (on_longs (long_calculated calc.Sub))
long_calculation calc.Mul = Strict 2 (on_longs (long_calculated calc.Mul))
long_calculation calc.Div = Strict 2 (on_longs (long_calculated calc.Div))
long_calculation calc.Rem = Strict 2 (on_longs (long_calculated calc.Rem))
long_calculation calc.Neg = Strict 1 (on_long (λ number. Gives (Long (int_wrapping_neg w64 number))))
long_calculation calc.Shl = Strict 2 (on_long_and_int (calculated w64 calc.Shl))
long_calculation calc.Shr = Strict 2 (on_long_and_int (calculated w64 calc.Shr))
long_calculation calc.Ushr = Strict 2 (on_long_and_int (calculated w64 calc.Ushr))
long_calculation calc.And = Strict 2 (on_longs (long_calculated calc.And))
long_calculation calc.Or = Strict 2 (on_longs (long_calculated calc.Or))
long_calculation calc.Xor = Strict 2 (on_longs (long_calculated calc.Xor))

-- arithmetic of a kind
abbrev pub calculation : Calc → Kind → Family
calculation operation kind.Int = int_calculation operation
calculation operation kind.Long = long_calculation operation
calculation operation kind.Float = Strict 1 no_operand
calculation operation kind.Double = Strict 1 no_operand
calculation operation kind.Ref = Strict 1 no_operand

-- a conversion of an int; one to a float or double isn't run
abbrev pub int_conversion : JType → Family
int_conversion Boolean = Strict 1 no_operand
int_conversion Byte = Strict 1 (on_int (narrowed Byte))
int_conversion Char = Strict 1 (on_int (narrowed Char))
int_conversion Short = Strict 1 (on_int (narrowed Short))
int_conversion types.Int = Strict 1 no_operand
int_conversion types.Long = Strict 1 (on_int (λ number. Gives (Long number)))
int_conversion Float = NotRun
int_conversion Double = NotRun
int_conversion (Class name) = Strict 1 no_operand
int_conversion (Array element) = Strict 1 no_operand

-- a conversion of a long
abbrev pub long_conversion : JType → Family
long_conversion Boolean = Strict 1 no_operand
long_conversion Byte = Strict 1 no_operand
long_conversion Char = Strict 1 no_operand
long_conversion Short = Strict 1 no_operand
long_conversion types.Int = Strict 1 (on_long (λ number. Gives (Int (int_wrap w32 number))))
long_conversion types.Long = Strict 1 no_operand
long_conversion Float = NotRun
long_conversion Double = NotRun
long_conversion (Class name) = Strict 1 no_operand
long_conversion (Array element) = Strict 1 no_operand

-- a conversion of a float or double: one to the other isn't run
abbrev pub float_conversion : JType → Family
float_conversion Boolean = Strict 1 no_operand
float_conversion Byte = Strict 1 no_operand
float_conversion Char = Strict 1 no_operand
float_conversion Short = Strict 1 no_operand
float_conversion types.Int = Strict 1 no_operand
float_conversion types.Long = Strict 1 no_operand
float_conversion Float = NotRun
float_conversion Double = NotRun
float_conversion (Class name) = Strict 1 no_operand
float_conversion (Array element) = Strict 1 no_operand

-- a conversion from a kind
abbrev pub conversion : Kind → JType → Family
conversion kind.Int type = int_conversion type
conversion kind.Long type = long_conversion type
conversion kind.Float type = float_conversion type
conversion kind.Double type = float_conversion type
conversion kind.Ref type = Strict 1 no_operand

-- a comparison of a kind
abbrev pub comparison : Kind → Family
comparison kind.Int = Strict 2 no_operand
comparison kind.Long = Strict 2 (on_longs compared)
comparison kind.Float = Strict 2 no_operand
comparison kind.Double = Strict 2 no_operand
comparison kind.Ref = Strict 2 no_operand

-- what a return of a kind does
abbrev pub return_of : Option Kind → Family
return_of None = Returns returned_nothing
return_of (Some kind) = Returns (returned_value kind)

-- the values that a call takes
abbrev pub arguments_of : Descriptor → ℕ
arguments_of descriptor = length (parameters_of descriptor)

-- ---- instructions

-- what each instruction of a class's method does, by the headers of the classes there are
abbrev pub meaning_of : List Header → Name → Instruction → Family
meaning_of headers class op.Nop = Strict 0 (λ operands. Gives None)
meaning_of headers class op.PushNull = Strict 0 (λ operands. Gives (Some Null))
meaning_of headers class (op.Push constant) = constant_pushed constant
meaning_of headers class (op.PushClass type) = Strict 0 (λ operands. ask (ClassConstant type))
meaning_of headers class (op.PushHandle kind interface owner name descriptor) = NotRun
meaning_of headers class (op.PushMethodType descriptor) = NotRun
meaning_of headers class (op.Load kind slot) = Loads (of_kind kind) slot
meaning_of headers class (op.Store kind slot) = Stores (of_kind kind) slot
meaning_of headers class (op.ArrayLoad element) = Strict 2 element_read
meaning_of headers class (op.ArrayStore element) = Strict 3 (element_written headers)
meaning_of headers class op.Pop = Moves pop_forms
meaning_of headers class op.Pop2 = Moves pop2_forms
meaning_of headers class op.Dup = Moves dup_forms
meaning_of headers class op.DupX1 = Moves dup_x1_forms
meaning_of headers class op.DupX2 = Moves dup_x2_forms
meaning_of headers class op.Dup2 = Moves dup2_forms
meaning_of headers class op.Dup2X1 = Moves dup2_x1_forms
meaning_of headers class op.Dup2X2 = Moves dup2_x2_forms
meaning_of headers class op.Swap = Moves swap_forms
meaning_of headers class (op.Calc operation kind) = calculation operation kind
meaning_of headers class (op.Iinc slot by) = Counts slot by
meaning_of headers class (op.Convert from to) = conversion from to
meaning_of headers class (op.Compare kind greater) = comparison kind
meaning_of headers class (op.IfZero test target) = Leads 1 (λ operands. with_one operands (λ value. with_int value (λ number. led (holds test number (pos 0)) target)))
meaning_of headers class (op.IfInts test target) =
    Leads 2 (λ operands. with_two operands (λ first second. with_int first (λ left. with_int second (λ right. led (holds test left right) target))))
meaning_of headers class (op.IfRefs true target) =
    Leads 2 (λ operands. with_two operands (λ first second. with_reference first (λ left. with_reference second (λ right. led (is_same_reference left right) target))))
meaning_of headers class (op.IfRefs false target) =
    Leads 2 (λ operands. with_two operands (λ first second. with_reference first (λ left. with_reference second (λ right. led (not (is_same_reference left right)) target))))
meaning_of headers class (op.IfNull true target) = Leads 1 (λ operands. with_one operands (λ value. with_reference value (λ reference. led (is_same_reference reference None) target)))
meaning_of headers class (op.IfNull false target) = Leads 1 (λ operands. with_one operands (λ value. with_reference value (λ reference. led (not (is_same_reference reference None)) target)))
meaning_of headers class (op.Goto target) = Leads 0 (λ operands. Gives (Some target))
meaning_of headers class (op.TableSwitch low targets other) = Leads 1 (λ operands. with_one operands (λ value. with_int value (λ number. Gives (Some (in_table low targets other number)))))
meaning_of headers class (op.LookupSwitch cases other) = Leads 1 (λ operands. with_one operands (λ value. with_int value (λ number. Gives (Some (in_cases cases other number)))))
meaning_of headers class (op.Return kind) = return_of kind
meaning_of headers class (op.GetStatic field) = Strict 0 (static_read field)
meaning_of headers class (op.PutStatic field) = Strict 1 (static_written field)
meaning_of headers class (op.GetField field) = Strict 1 (field_read field)
meaning_of headers class (op.PutField field) = Strict 2 (field_written field)
meaning_of headers class (op.InvokeVirtual method) = Strict (arguments_of method.descriptor + 1) (object_called Virtual method.owner method)
meaning_of headers class (op.InvokeSpecial method) = Strict (arguments_of method.descriptor + 1) (object_called Special (special_owner headers class method) method)
meaning_of headers class (op.InvokeStatic method) = Strict (arguments_of method.descriptor) (static_called method)
meaning_of headers class (op.InvokeInterface method) = Strict (arguments_of method.descriptor + 1) (object_called Interface method.owner method)
meaning_of headers class (op.InvokeDynamic bootstrap name descriptor) = NotRun
meaning_of headers class (op.New name) = Strict 0 (λ operands. ask (New name))
meaning_of headers class (op.NewArray element) = Strict 1 (array_made (Array element))
meaning_of headers class (op.MultiNewArray type sizes) = Strict sizes (array_made type)
meaning_of headers class op.ArrayLength = Strict 1 length_read
meaning_of headers class op.Throw = Strict 1 thrown_out
meaning_of headers class (op.CheckCast type) = Strict 1 (λ operands. with_one operands (λ value. with_reference value (cast_to headers type)))
meaning_of headers class (op.InstanceOf type) = Strict 1 (λ operands. with_one operands (λ value. with_reference value (λ reference. Gives (Some (truth (is_of headers type reference))))))
meaning_of headers class op.MonitorEnter = Strict 1 entered
meaning_of headers class op.MonitorExit = Strict 1 left
