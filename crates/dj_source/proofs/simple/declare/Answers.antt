use Rattle.std.proofs.Common.{subst}
use Rattle.std.specs.Prelude.{option_map}
use Rattle.std.specs.Option.{option_copied}
use Rattle.std.proofs.lemmas.Result.{err_from_is_err_and}
use Rattle.dj_names.specs.Types.{view_type}
use Rattle.dj_syntax.specs.Trees.{view_exp}
use Rattle.dj_outside.specs.Runs.{Ends}
use Rattle.dj_static.specs.Scopes.{scope_of}
use Rattle.dj_meaning.specs.StaticTypes.{with_type}
use Rattle.dj_meaning.specs.Declarations.{opened, initialised}
use Rattle.dj_objects.specs.Runs.{context_of, run_state}
use Rattle.dj_evaluating.proofs.PartLemmas.{then_ends, then_stops}
use Rattle.dj_source.specs.Running.{view_completion}
use Rattle.dj_source.proofs.WhereLemmas.{where_same, where_stops}
use Rattle.dj_source.proofs.simple.declare.Goals as goal

pub returns-in_err-open : goal.returns-in_err-open
returns-in_err-open c =
    let p = err_from_is_err_and c.from_residual.result c.from_residual.ensures.1 in
    let context = context_of c.args.method.now in
    let scope = scope_of c.args.scope.now in
    let old = run_state c.args.run.now in
    let middle = run_state c.open.new.run in
    rw (p.1, p.2) record {
      done = then_stops (λ (done : Unit {0}). done) view_completion (opened scope c.args.variable) (λ done. initialised context (with_type c.args.variable (view_type c.args.kind.now) scope) c.args.variable (option_map view_exp (option_copied c.args.initial))) old middle c.in_err-open.field-0.0 c.in_err-open.ensures.opened;
      scope = where_stops c.in_err-open.field-0.0 _ _ (λ is. is) c.in_err-open.ensures.scope;
    }

pub returns : goal.returns
returns c =
    let context = context_of c.args.method.now in
    let scope = scope_of c.args.scope.now in
    let old = run_state c.args.run.now in
    let middle = run_state c.open.new.run in
    let new = run_state c.initialise.new.run in
    let initial = option_map view_exp (option_copied c.args.initial) in
    record {
      done = then_ends (λ (done : Unit {0}). done) view_completion (opened scope c.args.variable) (λ done. initialised context (with_type c.args.variable (view_type c.args.kind.now) scope) c.args.variable initial) old middle c.initialise.result new tt c.in_ok-open.ensures.opened
          (subst (λ types. Ends view_completion c.initialise.result new (initialised context types c.args.variable initial middle)) c.in_ok-open.ensures.scope c.initialise.ensures.done);
      scope = where_same c.initialise.result _ c.in_ok-open.ensures.scope;
    }
