use Rattle.std.proofs.Common.{true, refl, ap, ◌∙◌}
use Rattle.dj_syntax.specs.Trees.{view_stms}
use Rattle.dj_syntax.specs.Trees.{Negative}
use Rattle.dj_names.specs.Types.{Long}
use Rattle.dj_rebuilt.specs.Nodes.{long_negative_node}
use Rattle.dj_pending.specs.Stacks.{stacked}
use Rattle.dj_pending.specs.Spilling.{behind}
use Rattle.dj_pending.proofs.NumberLemmas.{one-is}
use Rattle.dj_pending.proofs.built.Built.negate_long.Goals as goal

pub returns : goal.returns
returns c = record { built = c.in_ok-done.ensures.built ∙ ap (behind (view_stms c.args.self.now.emitted)) (one-is long_negative_node true Long Negative c.args.self.now.next (stacked c.args.self.now.stack) (λ one. refl)) }
