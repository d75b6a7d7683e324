use Rattle.std.proofs.Common.{◌≡◌, drop}
use Rattle.dj_syntax.specs.Trees.{view_catches}
use Rattle.dj_typed.specs.Statements as spec
use Rattle.dj_body_types.proofs.clauses.are_all_exceptions.Given as goal

abbrev pub invariant-loop-catch : goal.invariant-loop-catch
invariant-loop-catch l = record { exceptions : spec.are_exceptions l.headers (view_catches (drop l.catch-index l.catches)) ≡ spec.are_exceptions l.headers (view_catches l.catches) }
