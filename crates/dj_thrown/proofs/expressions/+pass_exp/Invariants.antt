use Rattle.std.proofs.Common.{◌≡◌, drop}
use Rattle.dj_syntax.specs.Trees.{view_exps}
use Rattle.dj_static.specs.Scopes.{scope_of}
use Rattle.dj_thrown.specs.Settings.{setting_of}
use Rattle.dj_thrown.specs.Walks as spec
use Rattle.dj_thrown.proofs.expressions.+pass_exp.Given as goal

abbrev pub invariant-pass_exps-loop-exp : goal.invariant-pass_exps-loop-exp
invariant-pass_exps-loop-exp l =
    spec.pass_exps (setting_of l.classes) (scope_of l.scope) (view_exps (drop l.exp-index l.list)) l.walk ≡ spec.pass_exps (setting_of l.classes) (scope_of l.scope) (view_exps l.list) l.fn.walk
