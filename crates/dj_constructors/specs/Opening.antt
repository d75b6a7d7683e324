-- The tree of a constructor whose code is one block: the call of another constructor on `this` with which it begins, and the statements behind it (JLS 8.8.7; JVMS 2.9.1, 4.10.1.9).
use Rattle.std.specs.Prelude.{ℕ, zero, suc, ◌+◌, ◌==◌, ◌&&◌, not, Bool, true, false, if◌then◌else◌, length, List, [], ◌∷◌, Option, Some, None, is_none, codes}
use Rattle.dj_names.specs.declared.header.Header.{Header}
use Rattle.dj_names.specs.Headers.{Name}
use Rattle.dj_names.specs.MethodNames.{is_constructor}
use Rattle.dj_names.specs.Types as types
use Rattle.dj_names.specs.Types.{JType, Boolean, Byte, Char, Short, Float, Double, Class, Array, StaticType, parameters_of}
use Rattle.dj_syntax.specs.Trees.{Stm, Construct, Stms, Empty, And}
use Rattle.dj_instructions.specs.Instructions.{MethodRef, Instruction, Instructions}
use Rattle.dj_instructions.specs.Instructions as op
use Rattle.dj_values.specs.Deciding.{is_type}
use Rattle.dj_code.specs.MethodCode.{Code}
use Rattle.dj_verify.specs.Rules.{frame_in}
use Rattle.dj_bytecode.specs.Meanings.{meaning_of}
use Rattle.dj_bytecode.specs.Machine.{pc_of}
use Rattle.dj_places.specs.Constants.{Surroundings}
use Rattle.dj_rebuilding.specs.Pending.{Atom, Number, Wide, Units, Nothing, Own, Named, exp_of, Pending, Kept, Whole, Born, Again, Typed, and_then}
use Rattle.dj_rebuilt.specs.Sorts.{Sort, Loading, Storing, Counting, Moving, Doubling, Dropping, Making, Calling, Throwing, Idle, Other, sort_of}
use Rattle.dj_rebuilt.specs.Rebuilding.{Names, Ways, Step, advance_one, continues, rebuilt}
use Rattle.dj_vars.specs.Parameters.{parameter_slots}
use Rattle.dj_vars.specs.Agreeing.{parameter_variable}
use Rattle.dj_blocks_shown.specs.Leaving.{Parts, is_start}
use Rattle.dj_meant.specs.Meant.{constructed_class}
use Rattle.dj_member_nodes.specs.Going.{may_be_given}
use Rattle.dj_member_nodes.specs.Nodes.{given_to}
use Rattle.dj_one_block.specs.OneBlock.{lone_ways, first_name}

-- ---- names before the call

-- the machine keeps values of this type as they are: an int, a long, or a reference
abbrev pub is_as_kept : JType → Bool
is_as_kept Boolean = false
is_as_kept Byte = false
is_as_kept Char = false
is_as_kept Short = false
is_as_kept types.Int = true
is_as_kept types.Long = true
is_as_kept Float = false
is_as_kept Double = false
is_as_kept (Class name) = true
is_as_kept (Array element) = true

-- a parameter as the name of its slot
abbrev pub parameter_name : JType → ℕ → Option (JType × Atom)
parameter_name type place = if is_as_kept type then Some (type, Named (parameter_variable place)) else None

-- the parameter of a slot, given the slots and types of those from one on
abbrev pub parameter_at : List ℕ → List JType → ℕ → Names
parameter_at [] kinds place slot = None
parameter_at (own ∷ slots) [] place slot = None
parameter_at (own ∷ slots) (type ∷ kinds) place slot = if slot == own then parameter_name type place else parameter_at slots kinds (suc place) slot

-- the first slot is `this`, and the others are those of parameters, which alone are in scope
abbrev pub opening_name : Code → Names
opening_name code slot = if slot == 0 then Some (Class code.class, Own) else parameter_at (parameter_slots code) (parameters_of code.descriptor) 0 slot

-- ---- the call

-- `this`, and nothing below it
abbrev pub is_own_alone : List Pending → Bool
is_own_alone [] = false
is_own_alone (Kept type (Number number) ∷ below) = false
is_own_alone (Kept type (Wide number) ∷ below) = false
is_own_alone (Kept type (Units units) ∷ below) = false
is_own_alone (Kept type Nothing ∷ below) = false
is_own_alone (Kept type Own ∷ []) = true
is_own_alone (Kept type Own ∷ second ∷ below) = false
is_own_alone (Kept type (Named variable) ∷ below) = false
is_own_alone (Whole type exp ∷ below) = false
is_own_alone (Born class ∷ below) = false
is_own_alone (Again ∷ below) = false

-- so many arguments from the stack, where `this` lies below them alone
abbrev pub own_operands : ℕ → List Typed → List Pending → Option (List Typed)
own_operands zero taken stack = if is_own_alone stack then Some taken else None
own_operands (suc count) taken [] = None
own_operands (suc count) taken (Kept type atom ∷ below) = own_operands count ((type, exp_of atom) ∷ taken) below
own_operands (suc count) taken (Whole type exp ∷ below) = own_operands count ((type, exp) ∷ taken) below
own_operands (suc count) taken (Born class ∷ below) = None
own_operands (suc count) taken (Again ∷ below) = None

-- the call as a statement: of a constructor of this class, or of the one above it
abbrev pub is_of_own : Surroundings → MethodRef → Bool
is_of_own known method = is_type method.owner (Class known.class)

abbrev pub construct : Surroundings → MethodRef → List Typed → Option Stm
construct known method are =
    if may_be_given known.headers are (parameters_of method.descriptor)
    then Some (Construct (is_of_own known method) (given_to known method (codes "<init>") (constructed_class known.headers known.class (is_of_own known method)) are)) else None

-- the method of a constructor's call
abbrev pub constructor_in : Instruction → Option MethodRef
constructor_in op.Nop = None
constructor_in op.PushNull = None
constructor_in (op.Push constant) = None
constructor_in (op.PushClass type) = None
constructor_in (op.PushHandle kind interface owner name descriptor) = None
constructor_in (op.PushMethodType descriptor) = None
constructor_in (op.Load kind slot) = None
constructor_in (op.Store kind slot) = None
constructor_in (op.ArrayLoad element) = None
constructor_in (op.ArrayStore element) = None
constructor_in op.Pop = None
constructor_in op.Pop2 = None
constructor_in op.Dup = None
constructor_in op.DupX1 = None
constructor_in op.DupX2 = None
constructor_in op.Dup2 = None
constructor_in op.Dup2X1 = None
constructor_in op.Dup2X2 = None
constructor_in op.Swap = None
constructor_in (op.Calc operation kind) = None
constructor_in (op.Iinc slot by) = None
constructor_in (op.Convert from to) = None
constructor_in (op.Compare kind greater) = None
constructor_in (op.IfZero test target) = None
constructor_in (op.IfInts test target) = None
constructor_in (op.IfRefs equal target) = None
constructor_in (op.IfNull null target) = None
constructor_in (op.Goto target) = None
constructor_in (op.TableSwitch low targets other) = None
constructor_in (op.LookupSwitch cases other) = None
constructor_in (op.Return kind) = None
constructor_in (op.GetStatic field) = None
constructor_in (op.PutStatic field) = None
constructor_in (op.GetField field) = None
constructor_in (op.PutField field) = None
constructor_in (op.InvokeVirtual method) = None
constructor_in (op.InvokeSpecial method) = if is_constructor method.name then Some method else None
constructor_in (op.InvokeStatic method) = None
constructor_in (op.InvokeInterface method) = None
constructor_in (op.InvokeDynamic bootstrap name descriptor) = None
constructor_in (op.New name) = None
constructor_in (op.NewArray element) = None
constructor_in (op.MultiNewArray type sizes) = None
constructor_in op.ArrayLength = None
constructor_in op.Throw = None
constructor_in (op.CheckCast type) = None
constructor_in (op.InstanceOf type) = None
constructor_in op.MonitorEnter = None
constructor_in op.MonitorExit = None

-- the call that an instruction is, where it is one on `this`, which lies at the bottom of the stack
abbrev pub own_call : Instruction → List Pending → Option (MethodRef × List Typed)
own_call instruction stack =
    and_then (constructor_in instruction) (λ method. and_then (own_operands (length (parameters_of method.descriptor)) [] stack) (λ are. Some (method, are)))

-- ---- what stands before the call

-- an instruction that writes no local
abbrev pub is_still : Sort → Bool
is_still (Loading kind slot) = true
is_still (Storing kind slot) = false
is_still (Counting slot by) = false
is_still (Moving forms) = true
is_still Doubling = true
is_still (Dropping two) = true
is_still (Making class) = true
is_still (Calling count) = true
is_still Throwing = false
is_still Idle = true
is_still Other = true

-- no statement
abbrev pub is_empty : Stms → Bool
is_empty Empty = true
is_empty (And first rest) = false

-- the call of another constructor with which code begins, its arguments, and the instructions behind it
abbrev pub Opened : Type 0
Opened = MethodRef × List Typed × Instructions

-- a step before the call emits nothing, and makes no variable
abbrev pub quiet_step : ℕ → Option Step → Option Step
quiet_step n None = None
quiet_step n (Some step) = if is_empty step.0.emitted && step.0.next == n then Some step else None

module _ (headers : List Header) (class : Name) (ways : Ways) (starts : ℕ → Bool) (own n : ℕ) where
  -- one instruction before the call
  abbrev pub before_call : Names → ℕ × Instruction → Instructions → List Pending → Option Step
  before_call names first rest stack =
      if continues (sort_of first.1) (meaning_of headers class first.1) && (is_still (sort_of first.1) && not (starts (pc_of rest)))
      then quiet_step n (advance_one headers class ways names first.0 first.1 n stack) else None

  -- the call itself, behind which the code goes on
  abbrev pub called_at : ℕ × Instruction → Instructions → List Pending → Option Opened
  called_at first rest stack = if starts (pc_of rest) then None else and_then (own_call first.1 stack) (λ call. Some (call.0, call.1, rest))

  -- the code up to the call, which stands at an offset, from a stack on
  abbrev pub opened : Names → List Pending → Instructions → Option Opened
  opened names stack [] = None
  opened names stack (first ∷ rest) =
      if first.0 == own then called_at first rest stack else and_then (before_call names first rest stack) (λ step. opened step.1 step.0.stack rest)

-- ---- the tree

-- the first number of a fresh variable: past those of the code, and of its parameters
abbrev pub fresh_from : Parts → ℕ
fresh_from parts = length parts.vars.kinds + length (parameters_of parts.typed.code.descriptor)

-- the call, which stands at an offset, and the statements of the code behind it, where both can be had, and no frame is given at the beginning
abbrev pub constructor_tree : Surroundings → Parts → ℕ → Option Stms
constructor_tree known parts own =
    if is_none (frame_in 0 parts.typed.code.frames) then
    and_then (opened known.headers parts.typed.code.class (lone_ways known parts) (is_start parts.starts) own (fresh_from parts) (opening_name parts.typed.code) [] parts.typed.code.instructions) (λ call.
    and_then (construct known call.0 call.1) (λ first.
    and_then (rebuilt known.headers parts.typed.code.class (lone_ways known parts) (is_start parts.starts) (first_name parts) (fresh_from parts) [] call.2) (λ rest.
    Some (And first rest)))) else None

-- the instructions but the one at an offset
abbrev pub without : ℕ → Instructions → Instructions
without pc [] = []
without pc (first ∷ rest) = if first.0 == pc then without pc rest else first ∷ without pc rest
