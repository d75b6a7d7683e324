use Rattle.std.proofs.Common.{◌≡◌, drop}
use Rattle.dj_syntax.specs.Trees.{view_stms}
use Rattle.dj_static.specs.Scopes.{scope_of}
use Rattle.dj_meaning.specs.Declarations.{passed, behind}
use Rattle.dj_meaning.specs.Runs.{Meaning}
use Rattle.dj_meaning.specs.Completions.{Completion}
use Rattle.dj_objects.specs.Runs.{run_state}
use Rattle.dj_scopes.specs.Keeping.{scope_back}
use Rattle.dj_source.specs.Keeping.{back}
use Rattle.dj_source.proofs.ListLemmas.{passing_at}
use Rattle.dj_source.proofs.scopes.pass.Given as goal

abbrev pub invariant-loop-statement : goal.invariant-loop-statement
invariant-loop-statement l = record {
  passed : (next : Meaning Completion) → back l.initial.kept.values (passed (scope_of l.initial.scope) (view_stms l.list) next (run_state l.initial.run)) ≡ passing_at l.list l.statement-index l.kept.values (scope_of l.scope) (run_state l.run) next;
  scope : behind (view_stms (drop l.statement-index l.list)) (scope_of l.scope) ≡ behind (view_stms l.list) (scope_of l.initial.scope);
  back : scope_back l.kept.kinds (scope_of l.scope) ≡ scope_back l.initial.kept.kinds (scope_of l.initial.scope);
}
