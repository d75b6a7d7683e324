-- Which variables an edge puts, and from what: those of the next block's slots that are other atoms at the end of this one.
use Rattle.std.specs.Prelude.{ℕ, zero, suc, ◌+◌, ◌-◌, ◌==◌, nat_lt, length, Bool, true, false, not, ◌&&◌, ◌||◌, if◌then◌else◌, List, [], ◌∷◌, ◌++◌, Option, Some, None, slice_get}
use Rattle.dj_names.specs.Types as types
use Rattle.dj_names.specs.Types.{JType, Boolean, Byte, Char, Short, Float, Double, Class, Array, StaticType, Of}
use Rattle.dj_syntax.specs.declared.variable.Var.{Var}
use Rattle.dj_syntax.specs.Trees.{Exp, Stms, Break, Empty, And}
use Rattle.dj_values.specs.Fits.{is_static}
use Rattle.dj_instructions.specs.Instructions.{Instructions}
use Rattle.dj_code.specs.MethodCode.{Code}
use Rattle.dj_meaning.specs.StaticTypes.{is_same_variable}
use Rattle.dj_meaning.specs.Declarations.{joined}
use Rattle.dj_bytecode.specs.Meanings.{meaning_of}
use Rattle.dj_rebuilding.specs.Pending.{Atom, Number, Wide, Units, Nothing, Own, Named, exp_of, Pending, Kept, Whole, Born, Again, and_then, spill}
use Rattle.dj_rebuilding.specs.Pending as pending
use Rattle.dj_rebuilt.specs.Nodes.{is_whole, is_wide, as_int}
use Rattle.dj_rebuilt.specs.Rebuilding.{Names, static_of}
use Rattle.dj_blocks_shown.specs.Slots.{from_bottom}
use Rattle.dj_blocks_shown.specs.Naming.{written_slot}
use Rattle.dj_blocks_shown.specs.Agreeing.{local_variable}
use Rattle.dj_blocks_shown.specs.Copies.{Copy, copied}
use Rattle.dj_blocks_shown.specs.Leaving.{Parts}

-- ---- where slots are looked at as `this`

-- the slot that an instruction writes, if any, is this one
abbrev pub is_slot : ℕ → Option ℕ → Bool
is_slot slot None = false
is_slot slot (Some own) = own == slot

-- some of these instructions writes a slot
abbrev pub writes_slot : ℕ → Instructions → Bool
writes_slot slot [] = false
writes_slot slot (first ∷ rest) = is_slot slot (written_slot (meaning_of [] [] first.1)) || writes_slot slot rest

-- whether the first local is `this` throughout
abbrev pub keeps_this : Code → Bool
keeps_this code = not (is_static code.flags) && not (writes_slot 0 code.instructions)

-- the variable that a block has for a slot as it begins, none where the slot is looked at as `this`
abbrev pub wanted : Parts → ℕ → ℕ → Option ℕ
wanted parts number slot = if keeps_this parts.typed.code && slot == 0 then None else parts.vars.of number slot

-- ---- what slots are at the end of a block

-- an atom, with its static type
abbrev pub Source : Type 0
Source = StaticType × Atom

-- that of a local's name: what is null for sure is named by the literal
abbrev pub source_of_name : Option (JType × Atom) → Option Source
source_of_name None = None
source_of_name (Some found) = Some (static_of found, found.1)

-- that of an entry of the stack; an expression that is no atom, or an object that isn't born, is none
abbrev pub source_of_entry : Option Pending → Option Source
source_of_entry None = None
source_of_entry (Some (Kept type atom)) = Some (type, atom)
source_of_entry (Some (Whole type exp)) = None
source_of_entry (Some (Born class)) = None
source_of_entry (Some Again) = None

-- that of a slot: of so many locals, and of the stack's entries behind them, counted from the bottom
abbrev pub source_at : ℕ → Names → List Pending → ℕ → Option Source
source_at most names stack slot = if nat_lt slot most then source_of_name (names slot) else source_of_entry (from_bottom stack (slot - most))

-- an atom is the variable of this number
abbrev pub is_own_atom : ℕ → Atom → Bool
is_own_atom variable (Number number) = false
is_own_atom variable (Wide number) = false
is_own_atom variable (Units units) = false
is_own_atom variable Nothing = false
is_own_atom variable Own = false
is_own_atom variable (Named other) = is_same_variable other (local_variable variable)

-- and so may what a slot is be
abbrev pub is_own : ℕ → Option Source → Bool
is_own variable None = false
is_own variable (Some source) = is_own_atom variable source.1

-- ---- which variables are put

-- the variable that is wanted for a slot is put where the slot is something else
abbrev pub puts_one : Option ℕ → Option Source → Var → Bool
puts_one None source variable = false
puts_one (Some own) source variable = not (is_own own source) && is_same_variable variable (local_variable own)

-- so for so many slots, from one on
abbrev pub puts_any : (ℕ → Option ℕ) → (ℕ → Option Source) → ℕ → ℕ → Var → Bool
puts_any want sources slot zero variable = false
puts_any want sources slot (suc more) variable = puts_one (want slot) (sources slot) variable || puts_any want sources (suc slot) more variable

-- the slots of a block's end: the locals, and the entries of the stack
abbrev pub slots_at_end : Parts → List Pending → ℕ
slots_at_end parts stack = parts.typed.code.max_locals + length stack

-- the variables that the edge to a block puts: what is pending may not read them then, so it is spilled before, but for atoms that are none of them
abbrev pub edge_puts : Parts → ℕ → Names → List Pending → Var → Bool
edge_puts parts number names stack = puts_any (wanted parts number) (source_at parts.typed.code.max_locals names stack) 0 (slots_at_end parts stack)

-- ---- the copies

-- how an expression of a static type is put where another type is wanted, if it can be
abbrev pub Dress : Type 0
Dress = StaticType → JType → Exp → Option Exp

-- by the kinds of values: a boolean is an int, and references stay as they are
abbrev pub when : Bool → Exp → Option Exp
when fits exp = if fits then Some exp else None

abbrev pub is_reference : StaticType → Bool
is_reference types.Null = true
is_reference (Of type) = pending.is_object type

abbrev pub by_kind : Dress
by_kind static Boolean exp = None
by_kind static Byte exp = None
by_kind static Char exp = None
by_kind static Short exp = None
by_kind static types.Int exp = when (is_whole static) (as_int static exp)
by_kind static types.Long exp = when (is_wide static) exp
by_kind static Float exp = None
by_kind static Double exp = None
by_kind static (Class name) exp = when (is_reference static) exp
by_kind static (Array element) exp = when (is_reference static) exp

-- one copy
abbrev pub one_copy : ℕ → Exp → List Copy
one_copy variable exp = record { to = variable; from = exp } ∷ []

-- the copy of an atom into a variable of a type
abbrev pub copy_into : Dress → ℕ → Source → Option JType → Option (List Copy)
copy_into dress variable source None = None
copy_into dress variable source (Some type) = and_then (dress source.0 type (exp_of source.1)) (λ exp. Some (one_copy variable exp))

-- the copy into a slot's variable: none where the slot is that one already; it can't be made where nothing is known of the slot
abbrev pub copy_from : Dress → List JType → ℕ → Option Source → Option (List Copy)
copy_from dress kinds variable None = None
copy_from dress kinds variable (Some source) = if is_own_atom variable source.1 then Some [] else copy_into dress variable source (slice_get kinds variable)

abbrev pub copy_slot : Dress → List JType → Option ℕ → Option Source → Option (List Copy)
copy_slot dress kinds None source = Some []
copy_slot dress kinds (Some variable) source = copy_from dress kinds variable source

-- those of so many slots, from one on, in their order
abbrev pub copies : Dress → List JType → (ℕ → Option ℕ) → (ℕ → Option Source) → ℕ → ℕ → Option (List Copy)
copies dress kinds want sources slot zero = Some []
copies dress kinds want sources slot (suc more) =
    and_then (copy_slot dress kinds (want slot) (sources slot)) (λ first. and_then (copies dress kinds want sources (suc slot) more) (λ rest. Some (first ++ rest)))

-- ---- the edge

-- the statements by which control goes to a block, from atoms none of which is put
abbrev pub jump : Dress → Parts → ℕ → Names → List Pending → Option Stms
jump dress parts number names stack =
    and_then (copies dress parts.vars.kinds (wanted parts number) (source_at parts.typed.code.max_locals names stack) 0 (slots_at_end parts stack)) (λ list. Some (copied list (And (Break number) Empty)))

-- the number of the block that starts at an offset
abbrev pub number_of : List ℕ → ℕ → Option ℕ
number_of [] pc = None
number_of (start ∷ rest) pc = if start == pc then Some 0 else and_then (number_of rest pc) (λ number. Some (suc number))

-- where nothing but an edge ends a block: what is pending is spilled, and control goes there
abbrev pub edge : Dress → Parts → ℕ → Names → ℕ → List Pending → Option Stms
edge dress parts number names n stack =
    and_then (spill (edge_puts parts number names stack) n stack) (λ so_far. and_then (jump dress parts number names so_far.stack) (λ last. Some (joined so_far.emitted last)))
