-- Calls of a constructor on `this`, in another one (JVMS 4.10.1.9, invokespecial; JLS 8.8.7.1).
use Rattle.std.specs.Prelude.{◌&&◌, Bool, true, false, length, Option, Some, None}
use Rattle.dj_names.specs.Types.{parameters_of}
use Rattle.dj_names.specs.MethodNames.{is_constructor}
use Rattle.dj_instructions.specs.Instructions.{MethodRef, Instruction, Nop, PushNull, Push, PushClass, PushHandle, PushMethodType, Load, Store, ArrayLoad, ArrayStore, Pop, Pop2, Dup, DupX1, DupX2, Dup2, Dup2X1, Dup2X2, Swap, Calc, Iinc, Convert, Compare, IfZero, IfInts, IfRefs, IfNull, Goto, TableSwitch, LookupSwitch, Return, GetStatic, PutStatic, GetField, PutField, InvokeVirtual, InvokeSpecial, InvokeStatic, InvokeInterface, InvokeDynamic, New, NewArray, MultiNewArray, ArrayLength, Throw, CheckCast, InstanceOf, MonitorEnter, MonitorExit}
use Rattle.dj_frames.specs.Frames.{Tag, Top, Int, Float, Double, Long, Null, UnbornThis, Object, Unborn, Frame}
use Rattle.dj_starts.specs.Births.{under}

-- `this` that isn't constructed yet
abbrev pub is_begun : Tag → Bool
is_begun Top = false
is_begun Int = false
is_begun Float = false
is_begun Double = false
is_begun Long = false
is_begun Null = false
is_begun UnbornThis = true
is_begun (Object type) = false
is_begun (Unborn pc) = false

-- an entry that there may be is that
abbrev pub is_some_begun : Option Tag → Bool
is_some_begun None = false
is_some_begun (Some tag) = is_begun tag

-- what stands under the arguments of a call is that, by the frame before it
abbrev pub is_on_begun : MethodRef → Frame → Bool
is_on_begun method frame = is_some_begun (under (length (parameters_of method.descriptor)) frame.stack)

-- the method that `invokespecial` calls
abbrev pub special_of : Instruction → Option MethodRef
special_of Nop = None
special_of PushNull = None
special_of (Push constant) = None
special_of (PushClass class) = None
special_of (PushHandle kind interface owner name descriptor) = None
special_of (PushMethodType descriptor) = None
special_of (Load kind slot) = None
special_of (Store kind slot) = None
special_of (ArrayLoad element) = None
special_of (ArrayStore element) = None
special_of Pop = None
special_of Pop2 = None
special_of Dup = None
special_of DupX1 = None
special_of DupX2 = None
special_of Dup2 = None
special_of Dup2X1 = None
special_of Dup2X2 = None
special_of Swap = None
special_of (Calc operation kind) = None
special_of (Iinc slot by) = None
special_of (Convert from to) = None
special_of (Compare kind greater) = None
special_of (IfZero test target) = None
special_of (IfInts test target) = None
special_of (IfRefs equal target) = None
special_of (IfNull null target) = None
special_of (Goto target) = None
special_of (TableSwitch low targets other) = None
special_of (LookupSwitch cases other) = None
special_of (Return kind) = None
special_of (GetStatic field) = None
special_of (PutStatic field) = None
special_of (GetField field) = None
special_of (PutField field) = None
special_of (InvokeVirtual method) = None
special_of (InvokeSpecial method) = Some method
special_of (InvokeStatic method) = None
special_of (InvokeInterface method) = None
special_of (InvokeDynamic bootstrap name descriptor) = None
special_of (New class) = None
special_of (NewArray element) = None
special_of (MultiNewArray class sizes) = None
special_of ArrayLength = None
special_of Throw = None
special_of (CheckCast class) = None
special_of (InstanceOf class) = None
special_of MonitorEnter = None
special_of MonitorExit = None

-- a call of a constructor on `this`, by the frame before it
abbrev pub calls_own : Instruction → Frame → Bool
calls_own instruction frame = by_method (special_of instruction)
  where
    by_method : Option MethodRef → Bool
    by_method None = false
    by_method (Some method) = is_constructor method.name && is_on_begun method frame
