use Rattle.std.proofs.Common.{◌≡◌, ℕ}
use Rattle.dj_code.specs.MethodCode.{view_code}
use Rattle.dj_code_variables.specs.Views.{view_vars}
use Rattle.dj_rebuild.specs.Slots.{local_at, names_before, names_of}
use Rattle.dj_rebuild.proofs.names.first_names.Given as goal

abbrev pub invariant-loop-slot : goal.invariant-loop-slot
invariant-loop-slot l = (slot : ℕ) → names_of l.names slot ≡ names_before l.slot (local_at l.keeps (view_code l.code) (view_vars l.vars)) slot
