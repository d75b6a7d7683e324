use Rattle.std.proofs.Common.{◌≡◌}
use Rattle.dj_names.specs.Types.{view_types}
use Rattle.dj_syntax.specs.Trees.{view_exps}
use Rattle.dj_static.specs.Scopes.{scope_of}
use Rattle.dj_meaning.specs.Expressions.{values}
use Rattle.dj_objects.specs.Runs.{context_of, run_state}
use Rattle.dj_evaluating.proofs.ValuesLemmas.{in_front, left}
use Rattle.dj_evaluating.proofs.evaluating.+evaluating.Given as goal

abbrev pub invariant-evaluate_all-loop-exp : goal.invariant-evaluate_all-loop-exp
invariant-evaluate_all-loop-exp l =
    values (context_of l.method) (scope_of l.scope) (view_exps l.exps) (view_types l.kinds) (run_state l.initial.run)
    ≡ in_front l.values (left (context_of l.method) (scope_of l.scope) l.exps l.exp-index (view_types l.left) (run_state l.run))
