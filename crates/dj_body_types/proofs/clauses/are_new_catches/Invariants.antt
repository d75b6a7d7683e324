use Rattle.std.proofs.Common.{◌≡◌, drop}
use Rattle.dj_syntax.specs.Trees.{view_catches}
use Rattle.dj_static.specs.Scopes.{scope_of}
use Rattle.dj_typed.specs.Statements as spec
use Rattle.dj_checked.specs.Sites.{site_of}
use Rattle.dj_body_types.proofs.clauses.are_new_catches.Given as goal

abbrev pub invariant-loop-catch : goal.invariant-loop-catch
invariant-loop-catch l = record { new : spec.are_new_catches (site_of l.site) (scope_of l.scope) (view_catches (drop l.catch-index l.catches)) ≡ spec.are_new_catches (site_of l.site) (scope_of l.scope) (view_catches l.catches) }
