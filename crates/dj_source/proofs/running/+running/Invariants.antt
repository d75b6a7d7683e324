use Rattle.std.proofs.Common.{◌≡◌, None, drop}
use Rattle.std.specs.Prelude.{option_map}
use Rattle.dj_syntax.specs.Trees.{view_exp, view_stms, view_groups, view_catches}
use Rattle.dj_values.specs.Views.{view_reference}
use Rattle.dj_static.specs.Scopes.{scope_of}
use Rattle.dj_meaning.specs.Runs.{Meaning}
use Rattle.dj_meaning.specs.Completions.{Completion}
use Rattle.dj_meaning.specs.Declarations.{behind}
use Rattle.dj_meaning.specs.Meaning.{run_from, run_clauses}
use Rattle.dj_objects.specs.Runs.{context_of, run_state}
use Rattle.dj_scopes.specs.Keeping.{scope_back}
use Rattle.dj_source.specs.Keeping.{back}
use Rattle.dj_source.specs.Running.{begun, view_place}
use Rattle.dj_source.proofs.ListLemmas.{opened_at}
use Rattle.dj_source.proofs.LoopLemmas.{while_of, do_of}
use Rattle.dj_source.proofs.SwitchLemmas.{rest_of}
use Rattle.dj_source.proofs.running.+running.Given as goal

abbrev pub invariant-run_open-loop-statement : goal.invariant-run_open-loop-statement
invariant-run_open-loop-statement l = record {
  opens : (next : Meaning Completion) → back l.initial.kept.values (begun (context_of l.method) (scope_of l.initial.scope) l.method.bound (view_place l.fn.first) (view_stms l.list) next (run_state l.initial.run))
      ≡ opened_at (context_of l.method) l.method.bound l.list l.statement-index l.kept.values (scope_of l.scope) (view_place l.place) (run_state l.run) next;
  scope : scope_back l.kept.kinds (scope_of l.scope) ≡ scope_back l.initial.kept.kinds (scope_of l.initial.scope);
  behind : behind (view_stms (drop l.statement-index l.list)) (scope_of l.scope) ≡ behind (view_stms l.list) (scope_of l.initial.scope);
}

abbrev pub decreases-run_loop-loop-left : goal.decreases-run_loop-loop-left
decreases-run_loop-loop-left l = l.left

abbrev pub invariant-run_loop-loop-left : goal.invariant-run_loop-loop-left
invariant-run_loop-loop-left l = record {
  turns : while_of (context_of l.method) (scope_of l.initial.scope) l.method.bound (view_place l.place) (view_exp l.condition) (option_map (λ one. (one.0, view_exp one.1.now)) l.step) (view_stms l.body) l.method.bound (run_state l.initial.run)
      ≡ while_of (context_of l.method) (scope_of l.initial.scope) l.method.bound (view_place l.place) (view_exp l.condition) (option_map (λ one. (one.0, view_exp one.1.now)) l.step) (view_stms l.body) l.left (run_state l.run);
  scope : scope_of l.scope ≡ scope_of l.initial.scope;
}

abbrev pub decreases-run_do-loop-left : goal.decreases-run_do-loop-left
decreases-run_do-loop-left l = l.left

abbrev pub invariant-run_do-loop-left : goal.invariant-run_do-loop-left
invariant-run_do-loop-left l = record {
  turns : do_of (context_of l.method) (scope_of l.initial.scope) l.method.bound (view_place l.place) (view_exp l.condition) None (view_stms l.body) l.method.bound (run_state l.initial.run)
      ≡ do_of (context_of l.method) (scope_of l.initial.scope) l.method.bound (view_place l.place) (view_exp l.condition) None (view_stms l.body) l.left (run_state l.run);
  scope : scope_of l.scope ≡ scope_of l.initial.scope;
}

abbrev pub invariant-run_groups-loop-group : goal.invariant-run_groups-loop-group
invariant-run_groups-loop-group l = record {
  opens : back l.initial.kept.values (run_from (context_of l.method) (scope_of l.initial.scope) l.method.bound (view_groups l.groups) l.wanted (run_state l.initial.run))
      ≡ rest_of (context_of l.method) l.method.bound l.wanted l.groups l.group-index l.found l.kept.values (scope_of l.scope) (run_state l.run);
  scope : scope_back l.kept.kinds (scope_of l.scope) ≡ scope_back l.initial.kept.kinds (scope_of l.initial.scope);
}

abbrev pub invariant-run_clauses-loop-clause : goal.invariant-run_clauses-loop-clause
invariant-run_clauses-loop-clause l = record {
  clauses : run_clauses (context_of l.method) (scope_of l.initial.scope) l.method.bound (view_catches l.clauses) (view_reference l.reference) (run_state l.initial.run)
      ≡ run_clauses (context_of l.method) (scope_of l.scope) l.method.bound (view_catches (drop l.clause-index l.clauses)) (view_reference l.reference) (run_state l.run);
  scope : scope_of l.scope ≡ scope_of l.initial.scope;
}
