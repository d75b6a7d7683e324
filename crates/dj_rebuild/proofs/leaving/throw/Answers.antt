use Rattle.std.proofs.Common.{true, ap, ◌∙◌}
use Rattle.dj_names.specs.Types.{JType}
use Rattle.dj_syntax.specs.Trees.{Throw, view_exp, view_stms}
use Rattle.dj_exits.specs.Exits.{throwable}
use Rattle.dj_pending.specs.Stacks.{stacked}
use Rattle.dj_member_trees.specs.Fitting.{fitted, taken_by}
use Rattle.dj_rebuild.proofs.Leaves.{given-behind, view_throw}
use Rattle.dj_rebuild.proofs.leaving.throw.Goals as goal

pub returns : goal.returns
returns c = record {
  thrown = c.in_ok-done.ensures.emitted
      ∙ given-behind (view_stms c.args.built.now.emitted) c.args.built.now.next (stacked c.args.built.now.stack) (stacked c.take_fitted.new.stack)
      (taken_by (fitted c.args.headers.now true throwable) (stacked c.args.built.now.stack)) (view_exp c.in-Some.tree.exp) Throw _
      (view_throw c.in-Some.tree.exp) c.in-Some.tree.quiet
      ((rw c.in-Some.is at c.in_ok-tree.ensures.taken) ∙ ap (λ (kind : JType). taken_by (fitted c.args.headers.now true kind) (stacked c.args.built.now.stack)) c.in_ok-kind.ensures.throwable);
}
