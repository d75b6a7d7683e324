-- When each instruction of a block may stand where it does: in verified code without floats, whose births can be written.
use Rattle.std.specs.Prelude.{◌≡◌, ℕ, ◌<◌, ◌≤◌, ◌==◌, true, false, if◌then◌else◌, List, [], ◌∷◌, Contains, drop, Some, slice_get}
use Rattle.dj_names.specs.declared.header.Header.{Header}
use Rattle.dj_instructions.specs.Instructions.{Instruction, Instructions}
use Rattle.dj_frames.specs.Frames.{has_unborn_this}
use Rattle.dj_stack_map.specs.StackMap.{IsNewAt}
use Rattle.dj_code.specs.declared.method_code.Handler.{Handler}
use Rattle.dj_code.specs.MethodCode.{Typed}
use Rattle.dj_code.specs.Targets.{IsStart, AllJumpRight}
use Rattle.dj_tags.specs.Goes.{Working}
use Rattle.dj_starts.specs.Edges.{Reaches}
use Rattle.dj_starts.specs.Births.{IsWritten}
use Rattle.dj_bytecode.specs.Meanings.{meaning_of}
use Rattle.dj_sound.specs.States.{table_of, IsStrict}
use Rattle.dj_rebuilt.specs.Located.{AllStandIn}
use Rattle.dj_rebuildable.specs.Beside.{is_open}
use Rattle.dj_rebuildable.specs.Walking.{moves_run_kind, is_run, atoms_behind, Compares, IsReachedAt, AllMayStand}
use Rattle.dj_blocks_shown.specs.Leaving.{is_start}
use Rattle.dj_blocks_shown.specs.Walks.{AreStarts}

-- ---- code

-- how many constants and loads stand right before the instruction at an offset, but for what does nothing, where so many stand before these
abbrev pub pushed_before : ℕ → Instructions → ℕ → ℕ
pushed_before count [] pc = count
pushed_before count (first ∷ rest) pc = if first.0 == pc then count else pushed_before (atoms_behind first.1 count) rest pc

-- the birth that begins with a `new` ends at an offset and can be written as one expression; where it compares longs, both are constants or loads
pub record IsPlainly (typed : Typed) (start end : ℕ) : Type 0 where
  pub written : IsWritten typed start end
  pub compares : (pc : ℕ) (instruction : Instruction) → Contains typed.code.instructions (pc, instruction) → start < pc → pc < end → Compares instruction → 2 ≤ pushed_before 0 typed.code.instructions pc

-- What is known of a method's code, which is read and verified, by Java's rules too, and against which no cause speaks: its jumps and ranges are whole, its instructions are run, and each birth that control reaches can be written.
pub record IsPlain (world : List Header) (typed : Typed) : Type 0 where
  pub strict : IsStrict world typed
  pub jumps : AllJumpRight typed.code.instructions
  pub ranges : (handler : Handler) → Contains typed.code.handlers handler → IsStart typed.code.instructions handler.start × (handler.start < handler.end)
  pub kinds : (pc : ℕ) (instruction : Instruction) → Contains typed.code.instructions (pc, instruction) → moves_run_kind instruction ≡ true
  pub run : (pc : ℕ) (instruction : Instruction) → Contains typed.code.instructions (pc, instruction) → is_run (meaning_of world typed.code.class instruction) ≡ true
  pub births : (start : ℕ) → Reaches typed.code start → IsNewAt typed.code.instructions start → (end : ℕ) × IsPlainly typed start end

-- ---- frames

-- no object is unborn, in a local or on the stack
pub record IsBorn (frame : Working) : Type 0 where
  pub locals : is_open frame.locals ≡ false
  pub stack : is_open frame.stack ≡ false

-- ---- the laws

-- each rest of strict code is its own: what stands behind an instruction on which control goes on is the code from there on
abbrev pub RestsAreOwn : Type 0
RestsAreOwn = (world : List Header) (typed : Typed) → IsStrict world typed → (place : ℕ) → AllStandIn typed.code (drop place typed.code.instructions)

-- from an instruction on that control reaches, and where no object is unborn, those of its block may stand where they do
abbrev pub BlocksMayStand : Type 0
BlocksMayStand =
    (world : List Header) (typed : Typed) → IsPlain world typed → (starts : List ℕ) → AreStarts typed starts
    → (place : ℕ) (first : ℕ × Instruction) (rest : Instructions) (frame : Working) → drop place typed.code.instructions ≡ first ∷ rest → slice_get (table_of typed) place ≡ Some frame → Reaches typed.code first.0 → IsBorn frame
    → AllMayStand world typed.code (IsReachedAt typed) (is_start starts) false 0 frame (first ∷ rest)

-- where a block starts of a method that isn't a constructor, no object is unborn
abbrev pub StartsAreBorn : Type 0
StartsAreBorn =
    (world : List Header) (typed : Typed) → IsPlain world typed → has_unborn_this typed.code.class typed.code.name ≡ false → (starts : List ℕ) → AreStarts typed starts
    → (place : ℕ) (first : ℕ × Instruction) (rest : Instructions) (frame : Working) → drop place typed.code.instructions ≡ first ∷ rest → slice_get (table_of typed) place ≡ Some frame → Contains starts first.0 → IsBorn frame
