-- What is asked of jumps and of the exception table (JVMS 4.7.3, 4.9.1).
use Rattle.std.specs.Prelude.{◌≡◌, ◌⊎◌, ℕ, ◌<◌, ◌≤◌, ◌==◌, if◌then◌else◌, List, [], ◌∷◌, map, All, Any, Option, None, IsSome}
use Rattle.dj_names.specs.Headers.{Name}
use Rattle.dj_pool.specs.declared.entry.Entry.{Entry}
use Rattle.dj_pool.specs.PoolFormat.{class_at, IsClassIndex}
use Rattle.dj_instructions.specs.Instructions.{Instruction, Instructions, instruction_at, Nop, PushNull, Push, PushClass, PushHandle, PushMethodType, Load, Store, ArrayLoad, ArrayStore, Pop, Pop2, Dup, DupX1, DupX2, Dup2, Dup2X1, Dup2X2, Swap, Calc, Iinc, Convert, Compare, IfZero, IfInts, IfRefs, IfNull, Goto, TableSwitch, LookupSwitch, Return, GetStatic, PutStatic, GetField, PutField, InvokeVirtual, InvokeSpecial, InvokeStatic, InvokeInterface, InvokeDynamic, New, NewArray, MultiNewArray, ArrayLength, Throw, CheckCast, InstanceOf, MonitorEnter, MonitorExit}
use Rattle.dj_code.specs.declared.content.RawHandler.{RawHandler}
use Rattle.dj_code.specs.declared.method_code.Handler.{Handler}

-- of a property that numbers have, the least that has it
pub record IsLeast (Has : ℕ → Type 0) (place : ℕ) : Type 0 where
  pub here : Has place
  pub least : (other : ℕ) → Has other → place ≤ other

-- an instruction begins at this offset
abbrev pub IsStart : Instructions → ℕ → Type 0
IsStart instructions pc = IsSome (instruction_at instructions pc)

-- ---- jumps

-- where an instruction may jump to
abbrev pub targets_of : Instruction → List ℕ
targets_of Nop = []
targets_of PushNull = []
targets_of (Push constant) = []
targets_of (PushClass class) = []
targets_of (PushHandle kind interface owner name descriptor) = []
targets_of (PushMethodType descriptor) = []
targets_of (Load kind slot) = []
targets_of (Store kind slot) = []
targets_of (ArrayLoad element) = []
targets_of (ArrayStore element) = []
targets_of Pop = []
targets_of Pop2 = []
targets_of Dup = []
targets_of DupX1 = []
targets_of DupX2 = []
targets_of Dup2 = []
targets_of Dup2X1 = []
targets_of Dup2X2 = []
targets_of Swap = []
targets_of (Calc operation kind) = []
targets_of (Iinc slot by) = []
targets_of (Convert from to) = []
targets_of (Compare kind greater) = []
targets_of (IfZero test target) = target ∷ []
targets_of (IfInts test target) = target ∷ []
targets_of (IfRefs equal target) = target ∷ []
targets_of (IfNull null target) = target ∷ []
targets_of (Goto target) = target ∷ []
targets_of (TableSwitch low targets other) = other ∷ targets
targets_of (LookupSwitch cases other) = other ∷ map (λ x. x.1) cases
targets_of (Return kind) = []
targets_of (GetStatic field) = []
targets_of (PutStatic field) = []
targets_of (GetField field) = []
targets_of (PutField field) = []
targets_of (InvokeVirtual method) = []
targets_of (InvokeSpecial method) = []
targets_of (InvokeStatic method) = []
targets_of (InvokeInterface method) = []
targets_of (InvokeDynamic bootstrap name descriptor) = []
targets_of (New class) = []
targets_of (NewArray element) = []
targets_of (MultiNewArray class sizes) = []
targets_of ArrayLength = []
targets_of Throw = []
targets_of (CheckCast class) = []
targets_of (InstanceOf class) = []
targets_of MonitorEnter = []
targets_of MonitorExit = []

-- an instruction begins wherever this one may jump to
abbrev pub JumpsRight : Instructions → Instruction → Type 0
JumpsRight instructions instruction = All (IsStart instructions) (targets_of instruction)

-- each jump leads to an instruction
abbrev pub AllJumpRight : Instructions → Type 0
AllJumpRight instructions = All (λ at. JumpsRight instructions at.1) instructions

-- the instruction at this offset jumps to where none begins
abbrev pub JumpsWrong : Instructions → ℕ → Type 0
JumpsWrong instructions pc = Any (λ at. (at.0 ≡ pc) × ¬ JumpsRight instructions at.1) instructions

-- ---- the exception table

-- the entry's handler is an instruction
abbrev pub LeadsRight : Instructions → RawHandler → Type 0
LeadsRight instructions handler = IsStart instructions handler.target

-- the entry's range begins at an instruction and ends behind that at one or at the end of the code, and it takes everything or a class
pub record RangesRight (pool : List Entry) (instructions : Instructions) (size : ℕ) (handler : RawHandler) : Type 0 where
  pub start : IsStart instructions handler.start
  pub end : IsStart instructions handler.end ⊎ (handler.end ≡ size)
  pub some : handler.start < handler.end
  pub class : (handler.class ≡ 0) ⊎ IsClassIndex pool handler.class

-- an entry whose range begins at this offset isn't as it is asked
abbrev pub StartsWrong : (RawHandler → Type 0) → List RawHandler → ℕ → Type 0
StartsWrong Right handlers pc = Any (λ handler. (handler.start ≡ pc) × ¬ Right handler) handlers

-- the class that an entry takes, None for all
abbrev pub class_taken : List Entry → ℕ → Option Name
class_taken pool class = if class == 0 then None else class_at pool class

-- an entry with the class that it takes
abbrev pub handler_of : List Entry → RawHandler → Handler
handler_of pool handler = record { start = handler.start; end = handler.end; target = handler.target; class = class_taken pool handler.class }
