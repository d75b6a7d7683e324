use Rattle.std.proofs.Common.{ap, ◌∙◌}
use Rattle.dj_syntax.specs.Trees.{view_exp}
use Rattle.dj_static.specs.Scopes.{scope_of}
use Rattle.dj_checked.specs.Sites.{site_of}
use Rattle.dj_checked.specs.Walks.{pass_exp}
use Rattle.dj_checked.proofs.CheckedLaw.{exp_kept, exp_broken}
use Rattle.dj_checked.proofs.check.check_expression.Goals as goal

pub returns-in-None-clause-kept : goal.returns-in-None-clause-kept
returns-in-None-clause-kept c =
    exp_kept (site_of c.args.site.now) (scope_of c.args.scope.now) (view_exp c.args.exp.now) c.pass_exp.new.walk
    (c.in_ok-pass_exp.ensures.walked ∙ ap (pass_exp (site_of c.args.site.now) (scope_of c.args.scope.now) (view_exp c.args.exp.now)) c.new-walk.ensures.opening) c.in-None.is

pub returns-in-Some-clause-broken : goal.returns-in-Some-clause-broken
returns-in-Some-clause-broken c =
    exp_broken (site_of c.args.site.now) (scope_of c.args.scope.now) (view_exp c.args.exp.now) c.pass_exp.new.walk
    (c.in_ok-pass_exp.ensures.walked ∙ ap (pass_exp (site_of c.args.site.now) (scope_of c.args.scope.now) (view_exp c.args.exp.now)) c.new-walk.ensures.opening) c.in-Some.fault c.in-Some.is
