-- The names of slots that the program keeps.
use Rattle.std.specs.Prelude.{ℕ, ◌==◌, ◌&&◌, nat_lt, Bool, if◌then◌else◌, [], Option, Some, None, option_map}
use Rattle.std.specs.Ordering.{nat_cmp}
use Rattle.std.specs.BTreeMap.{get}
use Rattle.dj_names.specs.Types.{JType, Class}
use Rattle.dj_code.specs.MethodCode.{Code}
use Rattle.dj_vars.specs.Naming.{Vars}
use Rattle.dj_blocks_shown.specs.Leaving.{Parts}
use Rattle.dj_rebuilding.specs.Pending.{Atom, Own, and_then}
use Rattle.dj_rebuilt.specs.Rebuilding.{Names, renamed}
use Rattle.dj_one_block.specs.OneBlock.{variable_of, first_name}
use Rattle.dj_pending.specs.Steps.{view_local}
use Rattle.dj_rebuild.specs.declared.names.Names as code_names
use Rattle.dj_rebuild.specs.Targets.{as_name}

-- code with its variables, as far as names go
abbrev pub named_parts : Code → Vars → Parts
named_parts code vars = record { typed = record { code = code; frames = [] }; starts = []; vars = vars }

-- what a slot is as the code begins
abbrev pub name_at : Code → Vars → ℕ → Option (JType × Atom)
name_at code vars slot = first_name (named_parts code vars) slot

-- what a local is as the code begins: `this`, where it is kept there, or its variable
abbrev pub local_at : Bool → Code → Vars → ℕ → Option (JType × Atom)
local_at keeps code vars slot = if keeps && slot == 0 then Some (Class code.class, Own) else and_then (variable_of vars.kinds (vars.of 0 slot)) (λ one. Some (as_name one))

-- names, with that of a slot, if it has one
abbrev pub name_by : ℕ → Option (JType × Atom) → Names → Names
name_by slot None names = names
name_by slot (Some found) names = renamed slot found names

-- the names of the slots before one
abbrev pub names_before : ℕ → Names → Names
names_before count names slot = if nat_lt slot count then names slot else None

-- what each slot is
abbrev pub names_of : code_names.Names → Names
names_of names slot = option_map view_local (get nat_cmp names.slots slot)
