use Rattle.std.proofs.Common.{false, refl, ap, ◌∙◌}
use Rattle.dj_syntax.specs.Trees.{view_stms}
use Rattle.dj_syntax.specs.Trees.{Negative}
use Rattle.dj_names.specs.Types.{Int}
use Rattle.dj_rebuilt.specs.Nodes.{int_negative_node}
use Rattle.dj_pending.specs.Stacks.{stacked}
use Rattle.dj_pending.specs.Spilling.{behind}
use Rattle.dj_pending.proofs.NumberLemmas.{one-is}
use Rattle.dj_pending.proofs.built.Built.negate_int.Goals as goal

pub returns : goal.returns
returns c = record { built = c.in_ok-done.ensures.built ∙ ap (behind (view_stms c.args.self.now.emitted)) (one-is int_negative_node false Int Negative c.args.self.now.next (stacked c.args.self.now.stack) (λ one. refl)) }
