-- The code of a method as plain data (JVMS 4.7.3).
use Rattle.std.specs.Prelude.{ℕ, List, map, Bool}
use Rattle.dj_names.specs.Headers.{Name}
use Rattle.dj_names.specs.Types.{Descriptor, view_descriptor}
use Rattle.dj_instructions.specs.Instructions.{Instructions, view_instructions}
use Rattle.dj_frames.specs.Frames.{Frame, view_frame, view_frames}
use Rattle.dj_code.specs.declared.method_code.Handler.{Handler}
use Rattle.dj_code.specs.declared.method_code.Code as code_code
use Rattle.dj_code.specs.declared.method_code.Typed as code_typed

-- the code of a method: its class and head, the limits, the instructions by their pcs, the exception table in order, and the frames that the class file gives, by their pcs
pub record Code : Type 0 where
  pub class : Name
  pub name : List ℕ
  pub flags : ℕ
  pub interface : Bool
  pub descriptor : Descriptor
  pub thrown : List Name
  pub max_stack : ℕ
  pub max_locals : ℕ
  pub instructions : Instructions
  pub handlers : List Handler
  pub frames : List (ℕ × Frame)

-- code of the code, seen as plain data
abbrev pub view_code : code_code.Code → Code
view_code code = record {
  class = code.class;
  name = code.name;
  flags = code.flags;
  interface = code.interface;
  descriptor = view_descriptor code.descriptor;
  thrown = code.thrown;
  max_stack = code.max_stack;
  max_locals = code.max_locals;
  instructions = view_instructions code.instructions;
  handlers = code.handlers;
  frames = view_frames code.frames;
}

-- code with a frame for each instruction
pub record Typed : Type 0 where
  pub code : Code
  pub frames : List Frame

-- typed code of the code, seen as plain data
abbrev pub view_typed : code_typed.Typed → Typed
view_typed typed = record { code = view_code typed.code; frames = map view_frame typed.frames }
