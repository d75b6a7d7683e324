use Rattle.std.proofs.Common.{ap, ◌∙◌}
use Rattle.dj_syntax.specs.Trees.{view_exp}
use Rattle.dj_syntax.proofs.TreeViews.{view_for}
use Rattle.dj_declaring.specs.Passes as spec
use Rattle.dj_lawful.specs.PassViews.{view_list}
use Rattle.dj_lawful.proofs.made.Made.counting.Goals as goal

pub returns : goal.returns
returns c = record {
  made = c.looped.ensures.made ∙ ap (λ one. spec.looped c.args.known one c.args.inner.jumps) (view_for c.in_ok-test.test c.args.variable c.in_ok-step.step c.args.inner.list)
      ∙ ap (λ one. spec.counting c.args.known (view_exp one) c.args.variable (view_exp c.in_ok-step.step) (view_list c.args.inner)) c.in_ok-test.ensures.equal
      ∙ ap (λ one. spec.counting c.args.known (view_exp c.args.test.now) c.args.variable (view_exp one) (view_list c.args.inner)) c.in_ok-step.ensures.equal;
}
