-- How control leaves an instruction (JVMS 2.11.7, 6.5).
use Rattle.std.specs.Prelude.{Bool, true, false}
use Rattle.dj_instructions.specs.declared.kinds.Calc as calc
use Rattle.dj_instructions.specs.declared.kinds.Calc.TheVariants as calcs
use Rattle.dj_instructions.specs.declared.kinds.Kind as kind
use Rattle.dj_instructions.specs.declared.kinds.Kind.TheVariants as kinds
use Rattle.dj_instructions.specs.Instructions.{Instruction, Nop, PushNull, Push, PushClass, PushHandle, PushMethodType, Load, Store, ArrayLoad, ArrayStore, Pop, Pop2, Dup, DupX1, DupX2, Dup2, Dup2X1, Dup2X2, Swap, Calc, Iinc, Convert, Compare, IfZero, IfInts, IfRefs, IfNull, Goto, TableSwitch, LookupSwitch, Return, GetStatic, PutStatic, GetField, PutField, InvokeVirtual, InvokeSpecial, InvokeStatic, InvokeInterface, InvokeDynamic, New, NewArray, MultiNewArray, ArrayLength, Throw, CheckCast, InstanceOf, MonitorEnter, MonitorExit}
use Rattle.dj_starts.specs.declared.control.Control.{Control}
use Rattle.dj_starts.specs.declared.control.Control.TheVariants as leaves

-- an arithmetic instruction throws where it divides ints or longs, maybe by zero (JVMS 6.5, idiv, irem, ldiv, lrem)
abbrev pub divides : kind.Kind → Control
divides kinds.Int = leaves.OnOrThrown
divides kinds.Long = leaves.OnOrThrown
divides kinds.Float = leaves.On
divides kinds.Double = leaves.On
divides kinds.Ref = leaves.On

-- how control leaves an arithmetic instruction
abbrev pub control_of_calc : calc.Calc → kind.Kind → Control
control_of_calc calcs.Add kind = leaves.On
control_of_calc calcs.Sub kind = leaves.On
control_of_calc calcs.Mul kind = leaves.On
control_of_calc calcs.Div kind = divides kind
control_of_calc calcs.Rem kind = divides kind
control_of_calc calcs.Neg kind = leaves.On
control_of_calc calcs.Shl kind = leaves.On
control_of_calc calcs.Shr kind = leaves.On
control_of_calc calcs.Ushr kind = leaves.On
control_of_calc calcs.And kind = leaves.On
control_of_calc calcs.Or kind = leaves.On
control_of_calc calcs.Xor kind = leaves.On

-- how control leaves an instruction: one throws that acts on the outside, other than to leave a monitor, or that a trap may end; dynamic constants and call sites aren't run
abbrev pub control_of : Instruction → Control
control_of Nop = leaves.On
control_of PushNull = leaves.On
control_of (Push constant) = leaves.On
control_of (PushClass class) = leaves.OnOrThrown
control_of (PushHandle kind interface owner name descriptor) = leaves.On
control_of (PushMethodType descriptor) = leaves.On
control_of (Load kind slot) = leaves.On
control_of (Store kind slot) = leaves.On
control_of (ArrayLoad element) = leaves.OnOrThrown
control_of (ArrayStore element) = leaves.OnOrThrown
control_of Pop = leaves.On
control_of Pop2 = leaves.On
control_of Dup = leaves.On
control_of DupX1 = leaves.On
control_of DupX2 = leaves.On
control_of Dup2 = leaves.On
control_of Dup2X1 = leaves.On
control_of Dup2X2 = leaves.On
control_of Swap = leaves.On
control_of (Calc operation kind) = control_of_calc operation kind
control_of (Iinc slot by) = leaves.On
control_of (Convert from to) = leaves.On
control_of (Compare kind greater) = leaves.On
control_of (IfZero test target) = leaves.Branch
control_of (IfInts test target) = leaves.Branch
control_of (IfRefs equal target) = leaves.Branch
control_of (IfNull null target) = leaves.Branch
control_of (Goto target) = leaves.Jump
control_of (TableSwitch low targets other) = leaves.Jump
control_of (LookupSwitch cases other) = leaves.Jump
control_of (Return kind) = leaves.Return
control_of (GetStatic field) = leaves.OnOrThrown
control_of (PutStatic field) = leaves.OnOrThrown
control_of (GetField field) = leaves.OnOrThrown
control_of (PutField field) = leaves.OnOrThrown
control_of (InvokeVirtual method) = leaves.OnOrThrown
control_of (InvokeSpecial method) = leaves.OnOrThrown
control_of (InvokeStatic method) = leaves.OnOrThrown
control_of (InvokeInterface method) = leaves.OnOrThrown
control_of (InvokeDynamic bootstrap name descriptor) = leaves.On
control_of (New class) = leaves.OnOrThrown
control_of (NewArray element) = leaves.OnOrThrown
control_of (MultiNewArray class sizes) = leaves.OnOrThrown
control_of ArrayLength = leaves.OnOrThrown
control_of Throw = leaves.Throw
control_of (CheckCast class) = leaves.OnOrThrown
control_of (InstanceOf class) = leaves.On
control_of MonitorEnter = leaves.Enter
control_of MonitorExit = leaves.Exit

-- whether control may go on to the instruction behind
abbrev pub falls_through : Control → Bool
falls_through leaves.On = true
falls_through leaves.OnOrThrown = true
falls_through leaves.Branch = true
falls_through leaves.Jump = false
falls_through leaves.Return = false
falls_through leaves.Throw = false
falls_through leaves.Enter = true
falls_through leaves.Exit = true

-- whether control may leave by an exception
abbrev pub can_leave_thrown : Control → Bool
can_leave_thrown leaves.On = false
can_leave_thrown leaves.OnOrThrown = true
can_leave_thrown leaves.Branch = false
can_leave_thrown leaves.Jump = false
can_leave_thrown leaves.Return = false
can_leave_thrown leaves.Throw = true
can_leave_thrown leaves.Enter = true
can_leave_thrown leaves.Exit = false

-- whether the instruction is a jump, a switch, a return, `athrow` or one of monitors
abbrev pub ends_block : Control → Bool
ends_block leaves.On = false
ends_block leaves.OnOrThrown = false
ends_block leaves.Branch = true
ends_block leaves.Jump = true
ends_block leaves.Return = true
ends_block leaves.Throw = true
ends_block leaves.Enter = true
ends_block leaves.Exit = true

-- whether an instruction can throw
abbrev pub can_throw : Instruction → Bool
can_throw instruction = can_leave_thrown (control_of instruction)
