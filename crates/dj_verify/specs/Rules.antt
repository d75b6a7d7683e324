-- What is asked of an instruction and its frame, rule by rule (JVMS 4.10.1.6).
use Rattle.std.specs.Prelude.{◌≢◌, ℕ, ◌+◌, ◌-◌, ◌<◌, ◌≤◌, ◌==◌, Bool, true, false, if◌then◌else◌, List, [], ◌∷◌, ◌++◌, length, replicate, All, Option, Some, None, option_map, IsSomeAnd, IfSome, IsTrue}
use Rattle.dj_names.specs.declared.header.Header.{Header}
use Rattle.dj_names.specs.Types.{Class}
use Rattle.dj_names.specs.Headers.{Name}
use Rattle.dj_class.specs.Described.{MethodOf}
use Rattle.dj_instructions.specs.Instructions.{Instruction, Instructions, Nop, PushNull, Push, PushClass, PushHandle, PushMethodType, Load, Store, ArrayLoad, ArrayStore, Pop, Pop2, Dup, DupX1, DupX2, Dup2, Dup2X1, Dup2X2, Swap, Calc, Iinc, Convert, Compare, IfZero, IfInts, IfRefs, IfNull, Goto, TableSwitch, LookupSwitch, Return, GetStatic, PutStatic, GetField, PutField, InvokeVirtual, InvokeSpecial, InvokeStatic, InvokeInterface, InvokeDynamic, New, NewArray, MultiNewArray, ArrayLength, Throw, CheckCast, InstanceOf, MonitorEnter, MonitorExit}
use Rattle.dj_frames.specs.Frames.{Tag, Top, Frame, entry_frame}
use Rattle.dj_code.specs.declared.method_code.Handler.{Handler}
use Rattle.dj_code.specs.MethodCode.{Code}
use Rattle.dj_code.specs.Targets.{IsStart, targets_of}
use Rattle.dj_tags.specs.Goes.{Assignability, words, Working, top_down, FrameGoes}
use Rattle.dj_effects.specs.Rows.{throwable_name, object, work}
use Rattle.dj_effects.specs.Operands.{HasOperands}
use Rattle.dj_effects.specs.Effects.{effect, locals_needed}
use Rattle.dj_verify.specs.declared.rule.Rule.{Rule}
use Rattle.dj_verify.specs.declared.rule.Rule.TheVariants as rule

-- ---- frames from outside

-- a frame with Top in the locals that aren't there, up to so many
abbrev pub padded : ℕ → Working → Working
padded max_locals frame = record frame { locals = frame.locals ++ replicate (max_locals - length frame.locals) Top }

-- the head of a method, by its code
abbrev pub head_of : Code → MethodOf
head_of code = record { flags = code.flags; name = code.name; descriptor = code.descriptor; thrown = []; code = None }

-- the frame that a method begins with, by its head
abbrev pub entry : Code → Working
entry code = padded code.max_locals (top_down (entry_frame code.class (head_of code)))

-- the first frame that the list gives at this offset
abbrev pub frame_in : ℕ → List (ℕ × Frame) → Option Frame
frame_in pc [] = None
frame_in pc (first ∷ rest) = if first.0 == pc then Some first.1 else frame_in pc rest

-- the frame given at this offset
abbrev pub given : Code → ℕ → Option Working
given code pc = option_map (λ frame. padded code.max_locals (top_down frame)) (frame_in pc code.frames)

-- ---- an instruction and its frame

-- the instruction behind may be next
abbrev pub falls : Instruction → Bool
falls Nop = true
falls PushNull = true
falls (Push constant) = true
falls (PushClass class) = true
falls (PushHandle kind interface owner name descriptor) = true
falls (PushMethodType descriptor) = true
falls (Load kind slot) = true
falls (Store kind slot) = true
falls (ArrayLoad element) = true
falls (ArrayStore element) = true
falls Pop = true
falls Pop2 = true
falls Dup = true
falls DupX1 = true
falls DupX2 = true
falls Dup2 = true
falls Dup2X1 = true
falls Dup2X2 = true
falls Swap = true
falls (Calc operation kind) = true
falls (Iinc slot by) = true
falls (Convert from to) = true
falls (Compare kind greater) = true
falls (IfZero test target) = true
falls (IfInts test target) = true
falls (IfRefs equal target) = true
falls (IfNull null target) = true
falls (Goto target) = false
falls (TableSwitch low targets other) = false
falls (LookupSwitch cases other) = false
falls (Return kind) = false
falls (GetStatic field) = true
falls (PutStatic field) = true
falls (GetField field) = true
falls (PutField field) = true
falls (InvokeVirtual method) = true
falls (InvokeSpecial method) = true
falls (InvokeStatic method) = true
falls (InvokeInterface method) = true
falls (InvokeDynamic bootstrap name descriptor) = true
falls (New class) = true
falls (NewArray element) = true
falls (MultiNewArray class sizes) = true
falls ArrayLength = true
falls Throw = false
falls (CheckCast class) = true
falls (InstanceOf class) = true
falls MonitorEnter = true
falls MonitorExit = true

-- an instruction begins at this offset, and the frame given there takes this one
pub record Reaches (Goes : Assignability) (code : Code) (frame : Working) (pc : ℕ) : Type 0 where
  pub instruction : IsStart code.instructions pc
  pub given : IsSomeAnd (given code pc) (FrameGoes Goes frame)

-- the words that a stack takes
abbrev pub stack_words : List Tag → ℕ
stack_words [] = 0
stack_words (top ∷ below) = words top + stack_words below

-- the locals and the stack of a frame are within the limits
pub record HasRoom (code : Code) (frame : Working) : Type 0 where
  pub locals : length frame.locals ≤ code.max_locals
  pub stack : stack_words frame.stack ≤ code.max_stack

-- the class whose references a handler takes
abbrev pub caught_class : Option Name → Name
caught_class None = throwable_name
caught_class (Some class) = class

-- the frame with nothing on the stack but what a handler takes
abbrev pub thrown_frame : Option Name → Working → Working
thrown_frame class frame = record frame { stack = object (caught_class class) ∷ [] }

-- what may be thrown in this frame goes to the handler
pub record HandlerTakes (Goes : Assignability) (code : Code) (frame : Working) (handler : Handler) : Type 0 where
  pub throwable : Goes (Class (caught_class handler.class)) (Class throwable_name)
  pub room : 1 ≤ code.max_stack
  pub reaches : Reaches Goes code (thrown_frame handler.class frame) handler.target

-- an entry of the exception table spans the offset
pub record Covers (handler : Handler) (pc : ℕ) : Type 0 where
  pub from : handler.start ≤ pc
  pub to : pc < handler.end

-- an instruction where it stands: what flows in from the one before, its offset, and those behind it
pub record Place : Type 0 where
  pub flow : Option Working
  pub pc : ℕ
  pub instruction : Instruction
  pub rest : Instructions

-- the effect of the instruction on a frame
abbrev pub effect_at : Code → Place → Working → Working
effect_at code place frame = effect code place.pc (work code place.instruction) frame

-- the instruction with this frame keeps the rule
abbrev pub FrameKeeps : Assignability → List Header → Code → Place → Working → Rule → Type 0
FrameKeeps Goes headers code place frame rule.NoFrame = Unit {0}
FrameKeeps Goes headers code place frame rule.Into = IfSome place.flow (λ flow. FrameGoes Goes flow frame)
FrameKeeps Goes headers code place frame rule.Operands = HasOperands Goes headers code place.pc (work code place.instruction) frame
FrameKeeps Goes headers code place frame rule.Room =
    HasRoom code frame × HasRoom code (effect_at code place frame) × (locals_needed (work code place.instruction) ≤ code.max_locals)
    × IfSome place.flow (λ flow. length flow.locals ≤ code.max_locals)
FrameKeeps Goes headers code place frame rule.Target = All (Reaches Goes code (effect_at code place frame)) (targets_of place.instruction)
FrameKeeps Goes headers code place frame rule.Handler = All (λ handler. Covers handler place.pc → HandlerTakes Goes code frame handler) code.handlers
FrameKeeps Goes headers code place frame rule.Past = IsTrue (falls place.instruction) → place.rest ≢ []
