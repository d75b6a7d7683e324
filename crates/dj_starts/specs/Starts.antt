-- Where the blocks of code start (JVMS 2.10, 2.11.7, 4.10.1.9).
use Rattle.std.specs.Prelude.{◌≡◌, ◌≢◌, ◌⊎◌, ℕ, ◌+◌, ◌-◌, List, [], ◌∷◌, drop, length, Bool, ◌==◌, ◌&&◌, ◌||◌, if◌then◌else◌, slice_index_or, IsTrue}
use Rattle.std.specs.List.{Contains, list_any}
use Rattle.dj_instructions.specs.declared.kinds.Kind.{Kind}
use Rattle.dj_instructions.specs.Instructions.{Instruction, Instructions, Store}
use Rattle.dj_frames.specs.Frames.{Tag, Top, Frame, slots_of}
use Rattle.dj_code.specs.declared.method_code.Handler.{Handler}
use Rattle.dj_code.specs.MethodCode.{Typed}
use Rattle.dj_code.specs.Targets.{IsStart, targets_of}
use Rattle.dj_starts.specs.Control.{control_of, ends_block}
use Rattle.dj_starts.specs.Edges.{Reaches, covers, first_pc}

-- ---- stores

-- what a local holds, Top where the frame has no such local
abbrev pub local_of : Frame → ℕ → Tag
local_of frame local = slice_index_or frame.locals local Top

-- what stands on top of the stack, Top where nothing does
abbrev pub top_of : Frame → Tag
top_of frame = slice_index_or frame.stack (length frame.stack - 1) Top

-- whether a value takes two locals
abbrev pub is_wide : Tag → Bool
is_wide tag = length (slots_of tag) == 2

-- what a local holds behind a store of a value into a slot: the value there, and Top in the second local of a wide one and in a local before the slot that holds a wide one (JVMS 4.10.1.9, modifyLocalVariable)
abbrev pub stored_local : Frame → ℕ → Tag → ℕ → Tag
stored_local frame slot value local =
    if local == slot then value
    else (if (local == slot + 1 && is_wide value) || (local + 1 == slot && is_wide (local_of frame local)) then Top
    else local_of frame local)

-- a store of a value into a slot changes what some local holds
pub record ChangesTo (frame : Frame) (slot : ℕ) (value : Tag) : Type 0 where
  pub local : ℕ
  pub differs : stored_local frame slot value local ≢ local_of frame local

-- the instruction is a store that changes what some local holds, by the frame before it
pub record IsChange (instruction : Instruction) (frame : Frame) : Type 0 where
  pub kind : Kind
  pub slot : ℕ
  pub is : instruction ≡ Store kind slot
  pub changes : ChangesTo frame slot (top_of frame)

-- the first of these frames is one before such a store
abbrev pub ChangesFirst : Instruction → List Frame → Type 0
ChangesFirst instruction [] = ⊥
ChangesFirst instruction (frame ∷ frames) = IsChange instruction frame

-- ---- starts

-- whether the range of some entry of the exception table has the pc
abbrev pub in_range : List Handler → ℕ → Bool
in_range handlers pc = list_any (λ handler. covers handler pc) handlers

-- one of these frames is given at this pc
abbrev pub IsGiven : List (ℕ × Frame) → ℕ → Type 0
IsGiven [] pc = ⊥
IsGiven (frame ∷ rest) pc = (pc ≡ frame.0) ⊎ IsGiven rest pc

-- the exception table has a range that starts or ends at this pc, or a handler there
abbrev pub TableAsks : List Handler → ℕ → Type 0
TableAsks [] pc = ⊥
TableAsks (handler ∷ rest) pc = (pc ≡ handler.start) ⊎ (pc ≡ handler.end) ⊎ (pc ≡ handler.target) ⊎ TableAsks rest pc

-- a block ends with the instruction at `here`, where another stands behind it: with a jump, a switch, a return, `athrow` or an instruction on monitors, and with a store that changes what a local holds, in a range or right before one
abbrev pub EndsBlock : List Handler → ℕ → Instruction → List Frame → ℕ → Type 0
EndsBlock handlers here instruction frames behind =
    IsTrue (ends_block (control_of instruction))
    ⊎ (ChangesFirst instruction frames × IsTrue (in_range handlers here || in_range handlers behind))

-- the instruction behind, if any, begins a block since one ends before it
abbrev pub BeginsBehind : List Handler → ℕ → Instruction → List Frame → List ℕ → ℕ → Type 0
BeginsBehind handlers here instruction frames [] pc = ⊥
BeginsBehind handlers here instruction frames (behind ∷ others) pc = (pc ≡ behind) × EndsBlock handlers here instruction frames behind

-- one of these instructions jumps to this pc, or ends a block before it; the frames are those before them
abbrev pub CodeAsks : List Handler → Instructions → List Frame → ℕ → Type 0
CodeAsks handlers [] frames pc = ⊥
CodeAsks handlers (at ∷ rest) frames pc =
    Contains (targets_of at.1) pc
    ⊎ BeginsBehind handlers at.0 at.1 frames (first_pc rest) pc
    ⊎ CodeAsks handlers rest (drop 1 frames) pc

-- a block begins at this pc
pub data BeginsBlock (typed : Typed) (pc : ℕ) : Type 0 where
  entry : pc ≡ 0 → BeginsBlock typed pc
  given : IsGiven typed.code.frames pc → BeginsBlock typed pc
  table : TableAsks typed.code.handlers pc → BeginsBlock typed pc
  code : CodeAsks typed.code.handlers typed.code.instructions typed.frames pc → BeginsBlock typed pc

-- an instruction that control reaches and that begins a block
pub record IsBlockStart (typed : Typed) (pc : ℕ) : Type 0 where
  pub at : IsStart typed.code.instructions pc
  pub reached : Reaches typed.code pc
  pub begins : BeginsBlock typed pc
