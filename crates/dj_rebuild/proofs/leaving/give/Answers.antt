use Rattle.std.proofs.Common.{true, Some, ◌∙◌}
use Rattle.dj_names.specs.Types.{view_type}
use Rattle.dj_syntax.specs.Trees.{Exp, Return, view_exp, view_stms}
use Rattle.dj_pending.specs.Stacks.{stacked}
use Rattle.dj_member_trees.specs.Fitting.{fitted, taken_by}
use Rattle.dj_rebuild.proofs.Leaves.{given-behind, view_return}
use Rattle.dj_rebuild.proofs.leaving.give.Goals as goal

pub returns : goal.returns
returns c = record {
  given = rw c.in-Some.is (c.in_ok-done.ensures.emitted
      ∙ given-behind (view_stms c.args.built.now.emitted) c.args.built.now.next (stacked c.args.built.now.stack) (stacked c.take_fitted.new.stack)
      (taken_by (fitted c.args.headers.now true (view_type c.in-Some.kind.now)) (stacked c.args.built.now.stack)) (view_exp c.in-Some-2.tree.exp) (λ (exp : Exp). Return (Some exp)) _
      (view_return c.in-Some-2.tree.exp) c.in-Some-2.tree.quiet (rw c.in-Some-2.is at c.in_ok-tree.ensures.taken));
}
