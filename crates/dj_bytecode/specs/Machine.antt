-- The machine: one step, and what a bounded run of a method's code comes to (JVMS 2.6, 2.10, 2.11).
use Rattle.std.specs.Prelude.{ℕ, zero, suc, ◌-◌, ◌==◌, ◌&&◌, nat_le, nat_lt, Bool, true, if◌then◌else◌, length, replicate, List, [], ◌∷◌, ◌++◌, Option, Some, None, slice_index_or, slice_set}
use Rattle.std.specs.Int.{w32, int_wrapping_add}
use Rattle.dj_names.specs.declared.header.Header.{Header}
use Rattle.dj_names.specs.Types.{result_of}
use Rattle.dj_values.specs.Values.{RefValue, Value, Int, Long, Null, Ref, Answer, Show}
use Rattle.dj_values.specs.Deciding.{is_instance}
use Rattle.dj_values.specs.Outcomes.{Throws, More, Stuck, Reply, Gives, Halts, there, then_on, State, Outcome, Is, Stops, bind, outside, opening, shown}
use Rattle.dj_instructions.specs.Instructions.{Instructions}
use Rattle.dj_code.specs.declared.method_code.Handler.{Handler}
use Rattle.dj_code.specs.MethodCode.{Code}
use Rattle.dj_bytecode.specs.Operands.{with_int}
use Rattle.dj_bytecode.specs.Shuffles.{shuffled}
use Rattle.dj_bytecode.specs.Meanings.{Family, Strict, Moves, Loads, Stores, Counts, Leads, Returns, NotRun, meaning_of}

-- ---- the locals

-- a store that is read and written by slot
pub record Slots (S : Type 0) : Type 0 where
  pub read : S → ℕ → Option Value
  pub write : ℕ → Value → S → S

-- the locals of a method, by slot; None where nothing is, and in the second slot of a long that is an argument
abbrev pub Locals : Type 0
Locals = List (Option Value)

-- locals, read and written by slot; a write sets its own slot alone, also that of a long
abbrev pub local_slots : Slots Locals
local_slots = record { read = λ locals slot. slice_index_or locals slot None; write = λ slot value locals. slice_set locals slot (Some value) }

-- ---- one step

-- where a run is: before the first of these instructions, with a stack from the top down; or at its end
pub data Place : Type 0 where
  Before : Instructions → List Value → Place
  Returned : Option Value → Place

-- so many values from the stack, the topmost last, and what lies below them
abbrev pub taken : {A : Type 0} → ℕ → List Value → List Value → (List Value → List Value → Reply A) → Reply A
taken zero values stack next = next values stack
taken (suc count) values [] next = Halts Stuck
taken (suc count) values (top ∷ below) next = taken count (top ∷ values) below next

-- a stack with what an operation gave on top
abbrev pub pushed : List Value → Option Value → List Value
pushed stack None = stack
pushed stack (Some value) = value ∷ stack

-- what a strict instruction makes of the stack
abbrev pub strict : ℕ → (List Value → Reply (Option Value)) → List Value → Reply (List Value)
strict count operation stack = taken count [] stack (λ operands below. then_on (operation operands) (λ given. Gives (pushed below given)))

-- the instructions from this offset on; none where none begins there
abbrev pub code_from : ℕ → Instructions → Instructions
code_from pc [] = []
code_from pc (first ∷ rest) = if first.0 == pc then first ∷ rest else code_from pc rest

-- where a jump leads: to these instructions, or on to those behind it
abbrev pub led_to : Instructions → Instructions → Option ℕ × List Value → Place
led_to all rest (None, stack) = Before rest stack
led_to all rest (Some target, stack) = Before (code_from target all) stack

-- what a jump makes of the stack, and where it leads
abbrev pub jumped : ℕ → (List Value → Reply (Option ℕ)) → List Value → Reply (Option ℕ × List Value)
jumped count choice stack = taken count [] stack (λ operands below. then_on (choice operands) (λ target. Gives (target, below)))

-- the value on top of the stack, and what lies below it
abbrev pub topmost : List Value → Reply (Value × List Value)
topmost [] = Halts Stuck
topmost (top ∷ below) = Gives (top, below)

-- on before these instructions, with a local changed
abbrev pub written : {S : Type 0} → Slots S → ℕ → Instructions → Value × List Value → State S → Outcome S Place
written slots slot rest given state = Is (Before rest given.1) (record { store = slots.write slot given.0 state.store; world = state.world })

-- an instruction in front of others, by its family
abbrev pub step : {S : Type 0} → List Header → Slots S → Code → Family → Instructions → List Value → State S → Outcome S Place
step headers slots code (Strict count operation) rest stack state =
    bind (outside headers (strict count operation stack) state) (λ next. Is (Before rest next))
step headers slots code (Moves forms) rest stack state =
    bind (outside headers (there (shuffled forms stack)) state) (λ next. Is (Before rest next))
step headers slots code (Loads of_kind slot) rest stack state =
    bind (outside headers (then_on (there (slots.read state.store slot)) of_kind) state) (λ value. Is (Before rest (value ∷ stack)))
step headers slots code (Stores of_kind slot) rest stack state =
    bind (outside headers (then_on (topmost stack) (λ top. then_on (of_kind top.0) (λ value. Gives (value, top.1)))) state) (written slots slot rest)
step headers slots code (Counts slot by) rest stack state =
    bind (outside headers (then_on (there (slots.read state.store slot)) (λ value. with_int value (λ number. Gives (Int (int_wrapping_add w32 number by), stack)))) state) (written slots slot rest)
step headers slots code (Leads count choice) rest stack state =
    bind (outside headers (jumped count choice stack) state) (λ led. Is (led_to code.instructions rest led))
step headers slots code (Returns gives) rest stack state =
    bind (outside headers (gives (result_of code.descriptor) stack) state) (λ value. Is (Returned value))
step headers slots code NotRun rest stack state = Stops More state

-- the first of these instructions; past the last one nothing is left to run
abbrev pub step_first : {S : Type 0} → List Header → Slots S → Code → Instructions → List Value → State S → Outcome S Place
step_first headers slots code [] stack state = Stops Stuck state
step_first headers slots code (first ∷ rest) stack state = step headers slots code (meaning_of headers code.class first.1) rest stack state

-- ---- exceptions

-- an entry of the exception table takes an exception that is thrown at this offset (JVMS 2.10, 4.7.3)
abbrev pub takes : List Header → ℕ → RefValue → Handler → Bool
takes headers pc reference handler = nat_le handler.start pc && nat_lt pc handler.end && by_class handler.class
  where
    by_class : Option (List ℕ) → Bool
    by_class None = true
    by_class (Some class) = is_instance headers reference.class class

-- where the first entry that takes an exception leads
abbrev pub handler_for : List Header → ℕ → RefValue → List Handler → Option ℕ
handler_for headers pc reference [] = None
handler_for headers pc reference (first ∷ rest) =
    if takes headers pc reference first then Some first.target else handler_for headers pc reference rest

-- an exception goes on in its handler, with the reference alone on the stack
abbrev pub caught : {S : Type 0} → List Header → Code → ℕ → Outcome S Place → Outcome S Place
caught headers code pc (Is place state) = Is place state
caught headers code pc (Stops More state) = Stops More state
caught headers code pc (Stops Stuck state) = Stops Stuck state
caught {S = S} headers code pc (Stops (Throws reference) state) = goes_on (handler_for headers pc reference code.handlers)
  where
    goes_on : Option ℕ → Outcome S Place
    goes_on None = Stops (Throws reference) state
    goes_on (Some target) = Is (Before (code_from target code.instructions) (Ref reference ∷ [])) state

-- ---- bounded runs

-- the offset of the first of these instructions
abbrev pub pc_of : Instructions → ℕ
pc_of [] = 0
pc_of (first ∷ rest) = first.0

-- on from a place
abbrev pub onward : {S : Type 0} → (Instructions → List Value → State S → Outcome S (Option Value)) → Place → State S → Outcome S (Option Value)
onward run (Before rest stack) state = run rest stack state
onward run (Returned value) state = Is value state

-- at most so many instructions of a method's code, from the first of these on
abbrev pub steps : {S : Type 0} → List Header → Slots S → Code → ℕ → Instructions → List Value → State S → Outcome S (Option Value)
steps headers slots code zero rest stack state = Stops More state
steps headers slots code (suc bound) rest stack state =
    bind (caught headers code (pc_of rest) (step_first headers slots code rest stack state)) (onward (steps headers slots code bound))

-- the slots of arguments; a long takes two
abbrev pub slots_of : List Value → Locals
slots_of [] = []
slots_of (Int number ∷ rest) = Some (Int number) ∷ slots_of rest
slots_of (Long number ∷ rest) = Some (Long number) ∷ None ∷ slots_of rest
slots_of (Null ∷ rest) = Some Null ∷ slots_of rest
slots_of (Ref reference ∷ rest) = Some (Ref reference) ∷ slots_of rest

-- the locals as a method with so many begins
abbrev pub first_locals : ℕ → List Value → Locals
first_locals most arguments = slots_of arguments ++ replicate (most - length (slots_of arguments)) None

-- what at most so many instructions of a method show, by these headers, with these arguments, `this` first where it has one, and answers
abbrev pub bytecode_show : List Header → Code → List Value → List Answer → ℕ → Show
bytecode_show headers code arguments answers bound =
    shown (steps headers local_slots code bound code.instructions [] (record { store = first_locals code.max_locals arguments; world = opening answers }))
