-- Births: the code from a `new` to the constructor call of its object, and when it can be written as one expression (JVMS 2.9, 4.10.1.9, 6.5 new).
use Rattle.std.specs.Prelude.{◌≡◌, ◌≢◌, ◌⊎◌, ℕ, ◌+◌, ◌<◌, List, [], ◌∷◌, length, reverse, drop, ◌&&◌, Option, Some, None, slice_get, IsTrue, ◌↔◌, if◌then◌else◌, is_none}
use Rattle.dj_names.specs.MethodNames.{is_constructor}
use Rattle.dj_names.specs.Types.{Descriptor, parameters_of, result_of}
use Rattle.dj_instructions.specs.Instructions.{Instruction, Instructions, MethodRef, Nop, PushNull, Push, PushClass, PushHandle, PushMethodType, Load, Store, ArrayLoad, ArrayStore, Pop, Pop2, Dup, DupX1, DupX2, Dup2, Dup2X1, Dup2X2, Swap, Calc, Iinc, Convert, Compare, IfZero, IfInts, IfRefs, IfNull, Goto, TableSwitch, LookupSwitch, Return, GetStatic, PutStatic, GetField, PutField, InvokeVirtual, InvokeSpecial, InvokeStatic, InvokeInterface, InvokeDynamic, New, NewArray, MultiNewArray, ArrayLength, Throw, CheckCast, InstanceOf, MonitorEnter, MonitorExit}
use Rattle.dj_frames.specs.Frames.{Tag, Top, Int, Float, Double, Long, Null, UnbornThis, Object, Unborn, Frame}
use Rattle.dj_stack_map.specs.StackMap.{IsNewAt}
use Rattle.dj_code.specs.declared.method_code.Handler.{Handler}
use Rattle.dj_code.specs.MethodCode.{Code, Typed}
use Rattle.dj_starts.specs.Starts.{IsGiven}
use Rattle.dj_starts.specs.declared.birth.Birth.{Birth}
use Rattle.dj_starts.specs.declared.roles.Role.{Role}
use Rattle.dj_starts.specs.declared.roles.Role.TheVariants as role

-- ---- constructor calls

-- what stands on the stack under so many values, None where nothing does
abbrev pub under : ℕ → List Tag → Option Tag
under n stack = slice_get (reverse stack) n

-- the pc of the `new` of an object that isn't constructed yet
abbrev pub unborn_of : Option Tag → Option ℕ
unborn_of None = None
unborn_of (Some Top) = None
unborn_of (Some Int) = None
unborn_of (Some Float) = None
unborn_of (Some Double) = None
unborn_of (Some Long) = None
unborn_of (Some Null) = None
unborn_of (Some UnbornThis) = None
unborn_of (Some (Object type)) = None
unborn_of (Some (Unborn start)) = Some start

-- the pc of the `new` whose object a call of this method constructs, with this frame before it: it is a constructor, and so without a result, and is called on a reference that is unborn
abbrev pub constructed_by : MethodRef → Frame → Option ℕ
constructed_by method frame =
    if is_constructor method.name && is_none (result_of method.descriptor) then unborn_of (under (length (parameters_of method.descriptor)) frame.stack) else None

-- the instruction constructs the object of the `new` at `start`
pub record Constructs (instruction : Instruction) (frame : Frame) (start : ℕ) : Type 0 where
  pub method : MethodRef
  pub is : instruction ≡ InvokeSpecial method
  pub of : constructed_by method frame ≡ Some start

-- likewise, by the first of these frames
abbrev pub ConstructsFirst : Instruction → List Frame → ℕ → Type 0
ConstructsFirst instruction [] start = ⊥
ConstructsFirst instruction (frame ∷ frames) start = Constructs instruction frame start

-- of these instructions with these frames before them, the one at `call` constructs the object of the `new` at `start`
abbrev pub Meets : Instructions → List Frame → ℕ → ℕ → Type 0
Meets [] frames start call = ⊥
Meets (at ∷ rest) frames start call = ((at.0 ≡ call) × ConstructsFirst at.1 frames start) ⊎ Meets rest (drop 1 frames) start call

-- the one constructor call that the object of the `new` at `start` meets, reachable or not, behind the `new`
pub record IsOnlyCall (typed : Typed) (start call : ℕ) : Type 0 where
  pub meets : Meets typed.code.instructions typed.frames start call
  pub only : (other : ℕ) → Meets typed.code.instructions typed.frames start other → other ≡ call
  pub behind : start < call

-- ---- what may stand in a birth

-- a call without a result stands apart
abbrev pub role_of_call : Descriptor → Role
role_of_call descriptor = if is_none (result_of descriptor) then role.Silent else role.Plain

-- what an instruction is in a birth
abbrev pub role_of : Instruction → Role
role_of Nop = role.Plain
role_of PushNull = role.Plain
role_of (Push constant) = role.Plain
role_of (PushClass class) = role.Plain
role_of (PushHandle kind interface owner name descriptor) = role.Plain
role_of (PushMethodType descriptor) = role.Plain
role_of (Load kind slot) = role.Plain
role_of (Store kind slot) = role.Never
role_of (ArrayLoad element) = role.Plain
role_of (ArrayStore element) = role.Never
role_of Pop = role.Never
role_of Pop2 = role.Never
role_of Dup = role.Dup
role_of DupX1 = role.Never
role_of DupX2 = role.Never
role_of Dup2 = role.Never
role_of Dup2X1 = role.Never
role_of Dup2X2 = role.Never
role_of Swap = role.Never
role_of (Calc operation kind) = role.Plain
role_of (Iinc slot by) = role.Never
role_of (Convert from to) = role.Plain
role_of (Compare kind greater) = role.Plain
role_of (IfZero test target) = role.Never
role_of (IfInts test target) = role.Never
role_of (IfRefs equal target) = role.Never
role_of (IfNull null target) = role.Never
role_of (Goto target) = role.Never
role_of (TableSwitch low targets other) = role.Never
role_of (LookupSwitch cases other) = role.Never
role_of (Return kind) = role.Never
role_of (GetStatic field) = role.Plain
role_of (PutStatic field) = role.Never
role_of (GetField field) = role.Plain
role_of (PutField field) = role.Never
role_of (InvokeVirtual method) = role_of_call method.descriptor
role_of (InvokeSpecial method) = role_of_call method.descriptor
role_of (InvokeStatic method) = role_of_call method.descriptor
role_of (InvokeInterface method) = role_of_call method.descriptor
role_of (InvokeDynamic bootstrap name descriptor) = role_of_call descriptor
role_of (New class) = role.New
role_of (NewArray element) = role.Plain
role_of (MultiNewArray class sizes) = role.Plain
role_of ArrayLength = role.Plain
role_of Throw = role.Never
role_of (CheckCast class) = role.Plain
role_of (InstanceOf class) = role.Plain
role_of MonitorEnter = role.Never
role_of MonitorExit = role.Never

-- the role of the first of these instructions
abbrev pub first_role : Instructions → Role
first_role [] = role.Plain
first_role (at ∷ rest) = role_of at.1

-- at this pc a birth ends that began behind `start`
pub record EndsInside (typed : Typed) (start call : ℕ) : Type 0 where
  pub inner : ℕ
  pub inside : start < inner
  pub ends : IsOnlyCall typed inner call

-- an instruction of this role at this pc, between those of the roles `before` and `behind`, may stand in the birth that began at `start`
pub record IsAllowed (typed : Typed) (start pc : ℕ) (before here behind : Role) : Type 0 where
  -- no jump, switch, return, `athrow`, store, `iinc`, instruction on monitors, `pop`, `swap`, nor a dup form but `dup`
  pub never : here ≢ role.Never
  -- a `dup` stands right behind a `new`
  pub dup : here ≡ role.Dup → before ≡ role.New
  -- each `new` has its `dup`
  pub new : here ≡ role.New → behind ≡ role.Dup
  -- a call without a result is the constructor call of a birth inside
  pub call : here ≡ role.Silent → EndsInside typed start pc

-- of these instructions, those behind `start` and before `end` are as is asked, by their pc, the role of the one before, their own and that of the one behind; `before` is the role of what stands before them all
abbrev pub Between : (ℕ → Role → Role → Role → Type 0) → ℕ → ℕ → Role → Instructions → Type 0
Between Asked start end before [] = Unit {0}
Between Asked start end before (at ∷ rest) =
    (start < at.0 → at.0 < end → Asked at.0 before (role_of at.1) (first_role rest)) × Between Asked start end (role_of at.1) rest

-- ---- births

-- the range of one of these entries of the exception table begins or ends at this pc
abbrev pub IsBound : List Handler → ℕ → Type 0
IsBound [] pc = ⊥
IsBound (handler ∷ rest) pc = (pc ≡ handler.start) ⊎ (pc ≡ handler.end) ⊎ IsBound rest pc

-- no frame is given at the pc, and no range begins or ends there
pub record IsFree (code : Code) (pc : ℕ) (before here behind : Role) : Type 0 where
  pub frames : IsGiven code.frames pc → ⊥
  pub ranges : IsBound code.handlers pc → ⊥

-- the birth from the `new` at `start` to its constructor call at `end` can be written as one expression
pub record IsWritten (typed : Typed) (start end : ℕ) : Type 0 where
  pub call : IsOnlyCall typed start end
  -- what stands between the two may stand there
  pub between : Between (IsAllowed typed start) start end role.Plain typed.code.instructions
  -- behind the `new`, up to and including the call, nothing is given and no range begins or ends
  pub free : Between (IsFree typed.code) start (end + 1) role.Plain typed.code.instructions

-- the birth of the object of a `new`; it ends where it begins unless there is one constructor call, behind it
pub record IsBirth (typed : Typed) (birth : Birth) : Type 0 where
  pub new : IsNewAt typed.code.instructions birth.start
  pub end : IsOnlyCall typed birth.start birth.end ⊎ ((birth.end ≡ birth.start) × ((call : ℕ) → IsOnlyCall typed birth.start call → ⊥))
  pub written : IsTrue birth.written ↔ IsWritten typed birth.start birth.end
