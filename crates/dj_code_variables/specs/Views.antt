-- The variables of code, seen as plain data.
use Rattle.std.specs.Prelude.{ℕ, List, map, Option, Some, None, slice_get, slice_index_or}
use Rattle.dj_names.specs.Types.{JType, view_type}
use Rattle.dj_frames.specs.Frames.{Frame}
use Rattle.dj_numbers.specs.declared.numbers.Variable.{Variable}
use Rattle.dj_numbers.specs.Numbers.{number_of_any, view_variables, IsChained}
use Rattle.dj_numbers.specs.Frames.{ArePlain, frame_type, view_first}
use Rattle.dj_vars.specs.Naming.{Vars}
use Rattle.dj_code_variables.specs.declared.vars.Vars as code_vars

-- what is there of what may be there
abbrev pub flattened : {A : Type 0} → Option (Option A) → Option A
flattened None = None
flattened (Some found) = found

-- the frame with which a block begins, by those of all
abbrev pub first_of : List (Option Frame) → ℕ → Option Frame
first_of firsts block = flattened (slice_get firsts block)

-- the type of a slot's variable by a frame, where there is one
abbrev pub first_type : ℕ → Option Frame → ℕ → Option JType
first_type most None slot = None
first_type most (Some frame) slot = frame_type most frame slot

-- the types of variables
abbrev pub kinds_of : List Variable → List JType
kinds_of = map (λ variable. view_type variable.kind)

-- variables of the code, seen as plain data
abbrev pub view_vars : code_vars.Vars → Vars
view_vars vars = record {
  of = λ block slot. number_of_any (view_variables vars.numbers.variables) slot (first_type vars.most (first_of (map view_first vars.firsts) block) slot);
  after = λ pc. slice_index_or vars.after pc None;
  kinds = map view_type vars.kinds;
}

-- variables can be looked up
pub record IsReady (vars : code_vars.Vars) : Type 0 where
  pub plain : ArePlain vars.plain
  pub chained : IsChained vars.numbers.variables vars.numbers.lasts
