-- What stores build, beside the names of slots that they leave.
use Rattle.std.specs.Prelude.{ℕ, Bool, true, false, ◌&&◌, if◌then◌else◌, List, Option, Some, None, option_map}
use Rattle.dj_names.specs.Types as types
use Rattle.dj_names.specs.Types.{JType, StaticType}
use Rattle.dj_syntax.specs.declared.variable.Var.{Var}
use Rattle.dj_syntax.specs.Trees.{Exp, Stms}
use Rattle.dj_instructions.specs.declared.kinds.Kind.{Kind}
use Rattle.dj_instructions.specs.declared.kinds.Kind.TheVariants as kind
use Rattle.dj_meaning.specs.Declarations.{joined}
use Rattle.dj_rebuilding.specs.Pending.{Atom, Number, Wide, Units, Nothing, Own, Named, Pending, Built}
use Rattle.dj_rebuilt.specs.Locals.{as_kind}
use Rattle.dj_rebuilt.specs.Rebuilding.{Names, Step, renamed, takes_kind, goes_as, nothing_there}
use Rattle.dj_pending.specs.Steps.{counted_to}
use Rattle.dj_rebuild.specs.declared.stores.Stored.{Stored}
use Rattle.dj_rebuild.specs.declared.stores.Stored.TheVariants as stored
use Rattle.dj_rebuild.specs.Targets.{as_name}

-- a step, where it can be made
abbrev pub as_step : Bool → Built → Names → Option Step
as_step true built names = Some (built, names)
as_step false built names = None

-- a step, behind statements
abbrev pub behind_step : Stms → Option Step → Option Step
behind_step first None = None
behind_step first (Some step) = Some (record { emitted = joined first step.0.emitted; stack = step.0.stack; next = step.0.next }, step.1)

-- a store of an expression to a variable
abbrev pub set_built : (StaticType → JType → Bool) → Kind → ℕ → StaticType → Exp → List Pending → Option (Var × JType) → Option Built
set_built goes of n static exp below None = None
set_built goes of n static exp below (Some target) =
    if takes_kind of target.1 then (if goes_as goes of static target.1 then counted_to n below target.0 (as_kind of static exp) else None) else None

-- what a slot is behind a store, where something was stored
abbrev pub name_behind : Option (Var × JType) → Stored → Option (JType × Atom)
name_behind target stored.No = None
name_behind target stored.Variable = option_map as_name target
name_behind target stored.Nothing = Some nothing_there

-- the step to a slot's new name
abbrev pub renamed_step : ℕ → Names → Built → Option (JType × Atom) → Option Step
renamed_step slot names built None = None
renamed_step slot names built (Some found) = Some (built, renamed slot found names)

-- the step that leaves what was stored in a slot
abbrev pub as_stored : ℕ → Names → Option (Var × JType) → Stored → Built → Option Step
as_stored slot names target one built = renamed_step slot names built (name_behind target one)

-- the type of null
abbrev pub is_null : StaticType → Bool
is_null types.Null = true
is_null (types.Of type) = false

-- what a slot of a kind is behind a store of null
abbrev pub nothing_stored : Kind → Stored
nothing_stored kind.Int = stored.No
nothing_stored kind.Long = stored.No
nothing_stored kind.Float = stored.No
nothing_stored kind.Double = stored.No
nothing_stored kind.Ref = stored.Nothing

-- what it is behind a store of an atom of the type of null
abbrev pub stored_null : Kind → Atom → Stored
stored_null of (Number number) = stored.No
stored_null of (Wide number) = stored.No
stored_null of (Units units) = stored.No
stored_null of Nothing = nothing_stored of
stored_null of Own = stored.No
stored_null of (Named variable) = stored.No

-- what it is behind a write that was done, or couldn't be
abbrev pub stored_of : Bool → Stored
stored_of true = stored.Variable
stored_of false = stored.No

-- the variable that an expression goes into, if it does
abbrev pub settable : (StaticType → JType → Bool) → Kind → StaticType → Option (Var × JType) → Option Var
settable goes of static None = None
settable goes of static (Some target) = if takes_kind of target.1 && goes_as goes of static target.1 then Some target.0 else None
