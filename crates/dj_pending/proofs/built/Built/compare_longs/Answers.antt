use Rattle.std.proofs.Common.{ap}
use Rattle.dj_syntax.specs.Trees.{view_stms}
use Rattle.dj_names.specs.Types.{JType, Of, view_type}
use Rattle.dj_pending.specs.Trees.{view_tree}
use Rattle.dj_pending.specs.Stacks.{stacked}
use Rattle.dj_pending.specs.Building.{view_built}
use Rattle.dj_pending.proofs.NumberLemmas.{compared-pushed}
use Rattle.dj_pending.proofs.built.Built.compare_longs.Goals as goal

pub returns : goal.returns
returns c = record {
  built = compared-pushed (view_stms c.args.self.now.emitted) c.args.self.now.next (stacked c.args.self.now.stack) (stacked c.take_atom.new.self) (stacked c.take_atom-2.new.self) (view_tree c.in-Some-2.left) (view_tree c.in-Some.right) (view_tree c.in_ok-tree.tree) (Of (view_type c.number_type.result)) (view_built c.push.new.self)
      (rw c.in-Some.is at c.in_ok-right.ensures.taken) (rw c.in-Some-2.is at c.in_ok-left.ensures.taken) c.in_ok-tree.ensures.comparing (ap (λ (one : JType). Of one) c.number_type.ensures.kind) c.in_ok-push.ensures.pushed;
}
