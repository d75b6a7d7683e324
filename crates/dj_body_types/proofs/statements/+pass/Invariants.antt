use Rattle.std.proofs.Common.{◌≡◌, drop}
use Rattle.dj_syntax.specs.Trees.{view_catches, view_groups, view_stms}
use Rattle.dj_static.specs.Scopes.{scope_of}
use Rattle.dj_meaning.specs.Declarations.{behind}
use Rattle.dj_scopes.specs.Keeping.{scope_back}
use Rattle.dj_body_types.specs.Views.{around_of}
use Rattle.dj_body_types.specs.Walks as spec
use Rattle.dj_body_types.proofs.statements.+pass.Given as goal

abbrev pub invariant-pass_open-loop-statement : goal.invariant-pass_open-loop-statement
invariant-pass_open-loop-statement l = record {
  walked : spec.pass_list (around_of l.around l.fn.targets) (scope_of l.scope) (view_stms (drop l.statement-index l.list)) l.walk ≡ spec.pass_list (around_of l.around l.fn.targets) (scope_of l.fn.scope) (view_stms l.list) l.fn.walk;
  targets : l.targets ≡ l.fn.targets;
  kept : scope_back l.kept (scope_of l.scope) ≡ scope_back l.fn.kept (scope_of l.fn.scope);
  behind : behind (view_stms (drop l.statement-index l.list)) (scope_of l.scope) ≡ behind (view_stms l.list) (scope_of l.fn.scope);
}

abbrev pub invariant-pass_open_groups-loop-group : goal.invariant-pass_open_groups-loop-group
invariant-pass_open_groups-loop-group l = record {
  walked : spec.pass_groups (around_of l.around l.fn.targets) (scope_of l.scope) (view_groups (drop l.group-index l.groups)) l.walk ≡ spec.pass_groups (around_of l.around l.fn.targets) (scope_of l.fn.scope) (view_groups l.groups) l.fn.walk;
  targets : l.targets ≡ l.fn.targets;
  kept : scope_back l.kept (scope_of l.scope) ≡ scope_back l.fn.kept (scope_of l.fn.scope);
}

abbrev pub invariant-pass_catches-loop-catch : goal.invariant-pass_catches-loop-catch
invariant-pass_catches-loop-catch l = record {
  walked : spec.pass_catches (around_of l.around l.fn.targets) (scope_of l.scope) (view_catches (drop l.catch-index l.catches)) l.walk ≡ spec.pass_catches (around_of l.around l.fn.targets) (scope_of l.fn.scope) (view_catches l.catches) l.fn.walk;
  targets : l.targets ≡ l.fn.targets;
  scope : scope_of l.scope ≡ scope_of l.fn.scope;
}
