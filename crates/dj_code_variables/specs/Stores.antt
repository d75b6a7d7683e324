-- The variables that stores write, as they are numbered one after another.
use Rattle.std.specs.Prelude.{◌≡◌, ◌≢◌, ◌⊎◌, ℕ, ◌-◌, ◌<◌, length, Bool, true, false, List, Option, Some, None, slice_get, slice_index_or}
use Rattle.dj_names.specs.Types as types
use Rattle.dj_names.specs.Types.{JType}
use Rattle.dj_instructions.specs.Instructions.{Instruction, Store, Iinc}
use Rattle.dj_frames.specs.Frames.{Tag, Frame}
use Rattle.dj_code.specs.MethodCode.{Typed}
use Rattle.dj_numbers.specs.Numbers.{Typing, number_of, with_new}
use Rattle.dj_numbers.specs.Frames.{type_of_slot}
use Rattle.dj_vars.specs.Naming.{WritesAt}
use Rattle.dj_numbering.specs.Numbered.{HasNumber}
use Rattle.dj_code_variables.specs.declared.stores.Write.{Write}
use Rattle.dj_code_variables.specs.declared.stores.Write.TheVariants.{No, Stored, Counted}

-- what an instruction writes
abbrev pub write_of : Instruction → Write
write_of (Store kind slot) = Stored slot
write_of (Iinc slot by) = Counted slot
write_of other = No

-- what stands on top of a frame's stack
abbrev pub top_tag : Frame → Option Tag
top_tag frame = slice_get frame.stack (length frame.stack - 1)

-- a slot, with a type where there is one
abbrev pub typing_at : ℕ → Option JType → Option Typing
typing_at slot None = None
typing_at slot (Some type) = Some (record { slot = slot; type = type })

-- the slot that is written, with the type of what it holds then
abbrev pub typing_of : Write → Frame → Option Typing
typing_of No frame = None
typing_of (Stored slot) frame = typing_at slot (type_of_slot (top_tag frame))
typing_of (Counted slot) frame = typing_at slot (Some types.Int)

-- those that an instruction writes where control reaches it, by the frame before it
abbrev pub written_at : Bool → Instruction → Option Frame → Option Typing
written_at false instruction frame = None
written_at true instruction None = None
written_at true instruction (Some frame) = typing_of (write_of instruction) frame

-- one variable more, where something is written and there is none of this slot and type
abbrev pub with_typing : List Typing → Option Typing → List Typing
with_typing variables None = variables
with_typing variables (Some typing) = with_new variables typing.slot typing.type (number_of variables typing.slot typing.type)

-- the number of what is written
abbrev pub number_of_typing : List Typing → Option Typing → Option ℕ
number_of_typing variables None = None
number_of_typing variables (Some typing) = number_of variables typing.slot typing.type

-- a number, or none, is noted at a pc where there is room, and nothing else
pub record IsNoted (pc : ℕ) (number : Option ℕ) (old new : List (Option ℕ)) : Type 0 where
  pub room : length new ≡ length old
  pub here : pc < length old → slice_index_or new pc None ≡ number
  pub others : (other : ℕ) → other ≢ pc → slice_index_or new other None ≡ slice_index_or old other None

-- what is written at a pc is numbered and noted
pub record IsStep (pc : ℕ) (write : Option Typing) (old new : List Typing) (before after : List (Option ℕ)) : Type 0 where
  pub variables : new ≡ with_typing old write
  pub noted : IsNoted pc (number_of_typing new write) before after

-- a slot and a type are written by one of so many first instructions, at this pc
pub record WritesBelow (typed : Typed) (bound pc slot : ℕ) (type : JType) : Type 0 where
  pub writes : WritesAt typed pc slot type
  pub below : writes.at.place < bound

-- so they are by some instruction
pub record IsWritten (typed : Typed) (typing : Typing) : Type 0 where
  pub pc : ℕ
  pub writes : WritesAt typed pc typing.slot typing.type

-- of what so many first instructions write each has a number, which is noted at its pc; numbers that were there stay, and nothing else has one
pub record AreStoredTo (typed : Typed) (bound : ℕ) (old new : List Typing) (after : List (Option ℕ)) : Type 0 where
  pub kept : (slot : ℕ) (type : JType) (number : ℕ) → number_of old slot type ≡ Some number → number_of new slot type ≡ Some number
  pub each : (pc slot : ℕ) (type : JType) → WritesBelow typed bound pc slot type → HasNumber new slot type
  pub only : (number : ℕ) (typing : Typing) → slice_get new number ≡ Some typing → (slice_get old number ≡ Some typing) ⊎ IsWritten typed typing
  pub noted : (pc slot : ℕ) (type : JType) → WritesBelow typed bound pc slot type → slice_index_or after pc None ≡ number_of new slot type
  pub not_noted : (pc : ℕ) → ((slot : ℕ) (type : JType) → ¬ WritesBelow typed bound pc slot type) → slice_index_or after pc None ≡ None

-- of what all instructions write
pub record AreStored (typed : Typed) (old new : List Typing) (after : List (Option ℕ)) : Type 0 where
  pub kept : (slot : ℕ) (type : JType) (number : ℕ) → number_of old slot type ≡ Some number → number_of new slot type ≡ Some number
  pub each : (pc slot : ℕ) (type : JType) → WritesAt typed pc slot type → HasNumber new slot type
  pub only : (number : ℕ) (typing : Typing) → slice_get new number ≡ Some typing → (slice_get old number ≡ Some typing) ⊎ IsWritten typed typing
  pub noted : (pc slot : ℕ) (type : JType) → WritesAt typed pc slot type → slice_index_or after pc None ≡ number_of new slot type
  pub not_noted : (pc : ℕ) → ((slot : ℕ) (type : JType) → ¬ WritesAt typed pc slot type) → slice_index_or after pc None ≡ None
