-- How the program's replies are seen as those of the definition.
use Rattle.std.specs.Prelude.{ℕ, ⊤, Bool, not, if◌then◌else◌, List, Option, Some, None, option_map}
use Rattle.dj_values.specs.Values.{Value}
use Rattle.dj_values.specs.Views.{view_reference, view_value, view_action}
use Rattle.dj_values.specs.Outcomes.{Throws, Stuck, Reply, Gives, Halts, ask, trap}
use Rattle.dj_instructions.specs.declared.kinds.Calc.{Calc}
use Rattle.dj_instructions.specs.declared.kinds.Calc.TheVariants as calc
use Rattle.dj_bytecode.specs.Operands.{with_one, with_two, with_reference}
use Rattle.dj_bytecode.specs.Calculations.{led}
use Rattle.dj_bytecode.specs.Objects.{is_same_reference}
use Rattle.dj_bytecode.specs.Meanings.{Family, Strict, Moves, Loads, Stores, Counts, Leads, Returns, NotRun}
use Rattle.dj_outside.specs.Runs.{trap_class}
use Rattle.dj_operands.specs.declared.reply.Reply as code_reply
use Rattle.dj_operands.specs.declared.reply.Reply.TheVariants as replies
use Rattle.dj_operands.specs.declared.jumps.Jump as code_jump
use Rattle.dj_operands.specs.declared.jumps.Jump.TheVariants as jumps

-- a reply
abbrev pub view_reply : code_reply.Reply → Reply (Option Value)
view_reply (replies.Gives value) = Gives (option_map view_value value)
view_reply (replies.Throws reference) = Halts (Throws (view_reference reference))
view_reply (replies.Asks action) = ask (view_action action)
view_reply (replies.Traps trapped) = trap (trap_class trapped)
view_reply replies.Stuck = Halts Stuck

-- where a jump leads
abbrev pub view_jump : code_jump.Jump → Reply (Option ℕ)
view_jump jumps.On = Gives None
view_jump (jumps.To target) = Gives (Some target)
view_jump jumps.Stuck = Halts Stuck

-- whether two references are as a jump wants them: equal, or not
abbrev pub as_wanted : Bool → Bool → Bool
as_wanted equal same = if equal then same else not same

-- where a jump leads that compares references
abbrev pub on_references : Bool → ℕ → List Value → Reply (Option ℕ)
on_references equal target operands =
    with_two operands (λ first second. with_reference first (λ left. with_reference second (λ right. led (as_wanted equal (is_same_reference left right)) target)))

-- where a jump leads that looks whether a reference is null
abbrev pub on_null : Bool → ℕ → List Value → Reply (Option ℕ)
on_null null target operands =
    with_one operands (λ value. with_reference value (λ reference. led (as_wanted null (is_same_reference reference None)) target))

-- the operation of a strict instruction; another one has none
abbrev pub operation_of : Family → List Value → Reply (Option Value)
operation_of (Strict count operation) = operation
operation_of (Moves forms) = λ operands. Halts Stuck
operation_of (Loads of_kind slot) = λ operands. Halts Stuck
operation_of (Stores of_kind slot) = λ operands. Halts Stuck
operation_of (Counts slot by) = λ operands. Halts Stuck
operation_of (Leads count choice) = λ operands. Halts Stuck
operation_of (Returns gives) = λ operands. Halts Stuck
operation_of NotRun = λ operands. Halts Stuck

-- where a jump leads; another instruction has no such choice
abbrev pub choice_of : Family → List Value → Reply (Option ℕ)
choice_of (Strict count operation) = λ operands. Halts Stuck
choice_of (Moves forms) = λ operands. Halts Stuck
choice_of (Loads of_kind slot) = λ operands. Halts Stuck
choice_of (Stores of_kind slot) = λ operands. Halts Stuck
choice_of (Counts slot by) = λ operands. Halts Stuck
choice_of (Leads count choice) = choice
choice_of (Returns gives) = λ operands. Halts Stuck
choice_of NotRun = λ operands. Halts Stuck

-- a shift
abbrev pub IsShift : Calc → Type 0
IsShift calc.Add = ⊥
IsShift calc.Sub = ⊥
IsShift calc.Mul = ⊥
IsShift calc.Div = ⊥
IsShift calc.Rem = ⊥
IsShift calc.Neg = ⊥
IsShift calc.Shl = ⊤
IsShift calc.Shr = ⊤
IsShift calc.Ushr = ⊤
IsShift calc.And = ⊥
IsShift calc.Or = ⊥
IsShift calc.Xor = ⊥

-- an operation on two numbers of one kind
abbrev pub IsPlain : Calc → Type 0
IsPlain calc.Add = ⊤
IsPlain calc.Sub = ⊤
IsPlain calc.Mul = ⊤
IsPlain calc.Div = ⊤
IsPlain calc.Rem = ⊤
IsPlain calc.Neg = ⊥
IsPlain calc.Shl = ⊥
IsPlain calc.Shr = ⊥
IsPlain calc.Ushr = ⊥
IsPlain calc.And = ⊤
IsPlain calc.Or = ⊤
IsPlain calc.Xor = ⊤
