use Rattle.dj_static.specs.Scopes.{scope_of}
use Rattle.dj_objects.specs.Runs.{run_state}
use Rattle.dj_source.proofs.KeepingLemmas.{opens_stuck, opens_free}
use Rattle.dj_source.proofs.scopes.open.Goals as goal

pub returns-then-is_in_scope-clause-opened : goal.returns-then-is_in_scope-clause-opened
returns-then-is_in_scope-clause-opened c = opens_stuck (scope_of c.args.scope.now) c.args.variable c.is_in_scope.result (run_state c.args.run.now) c.is_in_scope.ensures.declared c.if-is_in_scope.true

pub returns-clause-opened : goal.returns-clause-opened
returns-clause-opened c = opens_free (scope_of c.args.scope.now) c.args.variable c.is_in_scope.result (run_state c.args.run.now) (run_state c.forget.new.self) c.is_in_scope.ensures.declared c.if-is_in_scope.false c.forget.ensures.forgotten
