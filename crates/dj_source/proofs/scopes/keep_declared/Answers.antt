use Rattle.std.proofs.Common.{subst, ◌≡◌}
use Rattle.std.specs.Prelude.{OnOk}
use Rattle.dj_static.specs.Scopes.{scope_of}
use Rattle.dj_meaning.specs.StaticTypes as types
use Rattle.dj_meaning.specs.Runs as runs
use Rattle.dj_objects.specs.Runs.{store_of}
use Rattle.dj_scopes.specs.Keeping.{scope_back, scope_without}
use Rattle.dj_source.specs.Keeping.{store_back, store_without}
use Rattle.dj_source.proofs.scopes.keep_declared.Goals as goal

pub returns-in-Some : goal.returns-in-Some
returns-in-Some c = record {
  scope = subst (λ one. OnOk c.keep.result ((other : types.Scope) → scope_back c.keep.new.kept.kinds other ≡ scope_back c.args.kept.now.kinds (scope_without one (scope_of c.args.scope.now) other))) c.in-Some.ensures.declared c.keep.ensures.scope;
  store = subst (λ one. OnOk c.keep.result ((other : runs.Store) → store_back c.keep.new.kept.values other ≡ store_back c.args.kept.now.values (store_without one (store_of c.args.run.now) other))) c.in-Some.ensures.declared c.keep.ensures.store;
}
