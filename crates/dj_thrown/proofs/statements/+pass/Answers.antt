use Rattle.std.proofs.Common.{List, ap, ◌∙◌}
use Rattle.dj_syntax.specs.declared.statement.Stm.{Stm}
use Rattle.dj_syntax.specs.Trees.{view_stms}
use Rattle.dj_static.specs.Scopes.{scope_of}
use Rattle.dj_meaning.specs.Declarations.{behind}
use Rattle.dj_scopes.proofs.KeepingLemmas.{scope_kept, behind_more, behind_all}
use Rattle.dj_thrown.specs.Settings.{setting_of}
use Rattle.dj_thrown.specs.Walks.{pass_list}
use Rattle.dj_thrown.proofs.ListLemmas.{list_more, list_all, group_more, groups_all}
use Rattle.dj_thrown.proofs.statements.+pass.Goals as goal

pub pass_kept-returns-clause-kept : goal.pass_kept-returns-clause-kept
pass_kept-returns-clause-kept t c =
    scope_kept c.args.kept.now c.keep_declared.new.kept _ (scope_of c.args.scope.now) (scope_of c.pass.new.scope) c.in_ok-keep_declared.ensures.kept c.in_ok-pass.ensures.scope

pub pass_open-loop-statement-preserved : goal.pass_open-loop-statement-preserved
pass_open-loop-statement-preserved t c = record {
  walked =
      list_more (setting_of c.args.classes.now) c.loop-statement.held c.pass.new.held (scope_of c.loop-statement.scope) (scope_of c.pass.new.scope) c.args.list.now c.loop-statement.statement-index c.statement-item.result
      c.loop-statement.walk c.pass.new.walk _ c.loop-statement-test.true c.statement-item.is c.in_ok-pass.ensures.held c.in_ok-pass.ensures.scope c.in_ok-pass.ensures.walked c.loop-statement.invariant.walked;
  held = c.in_ok-pass.ensures.held ∙ c.loop-statement.invariant.held;
  kept =
      scope_kept c.loop-statement.kept c.keep_declared.new.kept _ (scope_of c.loop-statement.scope) (scope_of c.pass.new.scope) c.in_ok-keep_declared.ensures.kept c.in_ok-pass.ensures.scope
      ∙ c.loop-statement.invariant.kept;
  behind =
      behind_more c.args.list.now c.loop-statement.statement-index c.statement-item.result (scope_of c.loop-statement.scope) (scope_of c.pass.new.scope) _ c.loop-statement-test.true c.statement-item.is c.in_ok-pass.ensures.scope
      c.loop-statement.invariant.behind;
}

pub pass_open-returns : goal.pass_open-returns
pass_open-returns t c = record {
  walked = list_all (setting_of c.args.classes.now) c.loop-statement.held (scope_of c.loop-statement.scope) c.args.list.now c.loop-statement.statement-index c.loop-statement.walk _ c.loop-statement-test.false c.loop-statement.invariant.walked;
  held = c.loop-statement.invariant.held;
  kept = c.loop-statement.invariant.kept;
  behind = behind_all c.args.list.now c.loop-statement.statement-index (scope_of c.loop-statement.scope) _ c.loop-statement-test.false c.loop-statement.invariant.behind;
}

pub pass_open_groups-loop-group-preserved : goal.pass_open_groups-loop-group-preserved
pass_open_groups-loop-group-preserved t c = record {
  walked =
      group_more (setting_of c.args.classes.now) c.loop-group.held c.pass_open.new.held (scope_of c.loop-group.scope) (scope_of c.pass_open.new.scope) c.args.groups.now c.loop-group.group-index c.group-item.result
      c.loop-group.walk c.pass_open.new.walk _ c.loop-group-test.true c.group-item.is c.in_ok-pass_open.ensures.held
      (c.in_ok-pass_open.ensures.behind ∙ ap (λ (list : List Stm). behind (view_stms list) (scope_of c.loop-group.scope)) c.as_slice.ensures)
      (c.in_ok-pass_open.ensures.walked ∙ ap (λ (list : List Stm). pass_list (setting_of c.args.classes.now) c.loop-group.held (scope_of c.loop-group.scope) (view_stms list) c.loop-group.walk) c.as_slice.ensures)
      c.loop-group.invariant.walked;
  held = c.in_ok-pass_open.ensures.held ∙ c.loop-group.invariant.held;
  kept = c.in_ok-pass_open.ensures.kept ∙ c.loop-group.invariant.kept;
}

pub pass_open_groups-returns : goal.pass_open_groups-returns
pass_open_groups-returns t c = record {
  walked = groups_all (setting_of c.args.classes.now) c.loop-group.held (scope_of c.loop-group.scope) c.args.groups.now c.loop-group.group-index c.loop-group.walk _ c.loop-group-test.false c.loop-group.invariant.walked;
  held = c.loop-group.invariant.held;
  kept = c.loop-group.invariant.kept;
}
