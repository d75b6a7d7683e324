-- Where control goes from an instruction, and which instructions it reaches (JVMS 2.10, 2.11.7).
use Rattle.std.specs.Prelude.{ℕ, List, [], ◌∷◌, ◌++◌, map, Bool, true, false, ◌==◌, ◌&&◌, nat_le, nat_lt, if◌then◌else◌, is_none}
use Rattle.std.specs.List.{Contains}
use Rattle.dj_instructions.specs.Instructions.{Instruction, Instructions}
use Rattle.dj_code.specs.declared.method_code.Handler.{Handler}
use Rattle.dj_code.specs.MethodCode.{Code}
use Rattle.dj_code.specs.Targets.{targets_of}
use Rattle.dj_starts.specs.declared.ways.Edge.{Edge}
use Rattle.dj_starts.specs.Control.{control_of, falls_through, can_throw}

-- the instructions from the one at this pc on, none where none begins there
abbrev pub from_pc : ℕ → Instructions → Instructions
from_pc pc [] = []
from_pc pc (at ∷ rest) = if at.0 == pc then at ∷ rest else from_pc pc rest

-- the pc of the first of these instructions
abbrev pub first_pc : Instructions → List ℕ
first_pc [] = []
first_pc (at ∷ rest) = at.0 ∷ []

-- the instruction to which control falls through, where these stand behind this one
abbrev pub fallen_to : Instruction → Instructions → List ℕ
fallen_to instruction rest = if falls_through (control_of instruction) then first_pc rest else []

-- to this pc, other than by an exception
abbrev pub plain : ℕ → Edge
plain target = record { target = target; caught = false }

-- by an exception, to the handler at this pc
abbrev pub thrown : ℕ → Edge
thrown target = record { target = target; caught = true }

-- whether the range of an entry of the exception table has the pc
abbrev pub covers : Handler → ℕ → Bool
covers handler pc = nat_le handler.start pc && nat_lt pc handler.end

-- to the handlers whose ranges have the pc, in table order, up to and with the first that takes everything
abbrev pub caught_edges : List Handler → ℕ → List Edge
caught_edges [] pc = []
caught_edges (handler ∷ rest) pc =
    if covers handler pc then thrown handler.target ∷ (if is_none handler.class then [] else caught_edges rest pc) else caught_edges rest pc

-- the ways from an instruction by an exception
abbrev pub thrown_edges : List Handler → ℕ → Instruction → List Edge
thrown_edges handlers pc instruction = if can_throw instruction then caught_edges handlers pc else []

-- the ways from the first of these instructions: falling through, jumps, exceptions
abbrev pub first_edges : List Handler → Instructions → List Edge
first_edges handlers [] = []
first_edges handlers (at ∷ rest) =
    map plain (fallen_to at.1 rest) ++ map plain (targets_of at.1) ++ thrown_edges handlers at.0 at.1

-- the ways from the instruction at this pc, none where none begins there
abbrev pub edges : Code → ℕ → List Edge
edges code pc = first_edges code.handlers (from_pc pc code.instructions)

-- control reaches this pc: the least relation that has the first instruction and goes along ways
pub data Reaches (code : Code) : ℕ → Type 0 where
  start : Reaches code 0
  along : {pc : ℕ} {edge : Edge} → Reaches code pc → Contains (edges code pc) edge → Reaches code edge.target
