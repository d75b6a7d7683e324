-- What loads and `iinc` build.
use Rattle.std.specs.Prelude.{ℕ, ℤ, if◌then◌else◌, List, ◌∷◌, Option, Some, None}
use Rattle.dj_names.specs.Types.{JType, view_type}
use Rattle.dj_syntax.specs.declared.variable.Var.{Var}
use Rattle.dj_syntax.specs.Trees.{Exp, Set}
use Rattle.dj_instructions.specs.declared.kinds.Kind.{Kind}
use Rattle.dj_rebuilding.specs.Pending.{Atom, Pending, Kept, Built, grown, emit}
use Rattle.dj_rebuilt.specs.Locals.{counted, setting}
use Rattle.dj_rebuilt.specs.Rebuilding.{static_of, takes_kind, takes_ints, counts_on}
use Rattle.dj_pending.specs.declared.locals.Local as code_local
use Rattle.dj_pending.specs.declared.locals.Target as code_target
use Rattle.dj_pending.specs.Entries.{view_atom}

-- what a slot is
abbrev pub view_local : code_local.Local → JType × Atom
view_local local = (view_type local.kind, view_atom local.atom)

-- the variable that is written
abbrev pub view_target : code_target.Target → Var × JType
view_target target = (target.variable, view_type target.kind)

-- a load, given what its slot is
abbrev pub loaded : Kind → ℕ → List Pending → Option (JType × Atom) → Option Built
loaded of n stack None = None
loaded of n stack (Some found) = if takes_kind of found.0 then grown n (Kept (static_of found) found.1 ∷ stack) else None

-- an expression that is assigned to a variable
abbrev pub counted_to : ℕ → List Pending → Var → Exp → Option Built
counted_to n below variable exp = emit (setting variable exp) n below (Set variable exp)

-- a number that is added to a local
abbrev pub counted_built : ℤ → ℕ → List Pending → Option (JType × Atom) → Option (Var × JType) → Option Built
counted_built by n stack None target = None
counted_built by n stack (Some found) None = None
counted_built by n stack (Some found) (Some target) =
    if counts_on (static_of found) then (if takes_ints target.1 then counted_to n stack target.0 (counted found.1 by) else None) else None
