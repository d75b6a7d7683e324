use Rattle.std.proofs.Common.{false, refl, ap, ◌∙◌}
use Rattle.dj_syntax.specs.Trees.{view_stms}
use Rattle.dj_rebuilt.specs.Nodes.{int_node}
use Rattle.dj_pending.specs.Stacks.{stacked}
use Rattle.dj_pending.specs.Spilling.{behind}
use Rattle.dj_pending.proofs.NumberLemmas.{two-is}
use Rattle.dj_pending.proofs.built.Built.int_operation.Goals as goal

pub returns : goal.returns
returns c = record { built = c.in_ok-done.ensures.built ∙ ap (behind (view_stms c.args.self.now.emitted)) (two-is (int_node c.args.operator) c.args.operator false false c.args.self.now.next (stacked c.args.self.now.stack) (λ left right. refl)) }
