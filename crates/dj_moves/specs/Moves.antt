-- Which slots of a block's end go into which variables of the next block.
use Rattle.std.specs.Prelude.{ℕ, suc, ◌==◌, Bool, false, ◌&&◌, if◌then◌else◌, List, [], ◌∷◌, Option, Some, None}
use Rattle.dj_instructions.specs.Instructions.{Instruction, Store, Iinc}
use Rattle.dj_vars.specs.Naming.{Vars}
use Rattle.dj_moves.specs.declared.going.Held.{Held}
use Rattle.dj_moves.specs.declared.going.Held.TheVariants.{Unknown, Local, Else}
use Rattle.dj_moves.specs.declared.going.Move.{Move}

-- the slot that an instruction writes
abbrev pub slot_written : Instruction → Option ℕ
slot_written (Store kind slot) = Some slot
slot_written (Iinc slot by) = Some slot
slot_written other = None

-- a slot is the variable of a number already
abbrev pub is_held : ℕ → Held → Bool
is_held variable Unknown = false
is_held variable (Local other) = other == variable
is_held variable Else = false

-- the variable that a block has for a slot as it begins, where the method keeps `this` or not
abbrev pub wanted_by : Bool → Vars → ℕ → ℕ → Option ℕ
wanted_by keeps vars block slot = if keeps && slot == 0 then None else vars.of block slot

-- the move of a slot, before others, where it isn't what is wanted already
abbrev pub with_move : Option ℕ → Held → ℕ → List Move → List Move
with_move None held slot rest = rest
with_move (Some variable) held slot rest = if is_held variable held then rest else record { variable = variable; slot = slot } ∷ rest

-- the moves of slots, from one on
abbrev pub moves_of : (ℕ → Option ℕ) → List Held → ℕ → List Move
moves_of want [] slot = []
moves_of want (first ∷ rest) slot = with_move (want slot) first slot (moves_of want rest (suc slot))
