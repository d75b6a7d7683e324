-- What is built, seen as plain data.
use Rattle.std.specs.Prelude.{Bool, true, false, Option, Some, None}
use Rattle.dj_syntax.specs.Trees.{view_stms}
use Rattle.dj_rebuilding.specs.Pending as spec
use Rattle.dj_pending.specs.declared.built.Built as code_built
use Rattle.dj_pending.specs.Stacks.{stacked}

-- what is built
abbrev pub view_built : code_built.Built → spec.Built
view_built built = record { emitted = view_stms built.emitted; stack = stacked built.stack; next = built.next }

-- what is built, where it can be
abbrev pub as_built : Bool → spec.Built → Option spec.Built
as_built true built = Some built
as_built false built = None
