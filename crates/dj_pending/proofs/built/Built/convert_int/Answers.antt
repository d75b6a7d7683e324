use Rattle.std.proofs.Common.{false, refl, ap, ◌∙◌}
use Rattle.dj_syntax.specs.Trees.{view_stms}
use Rattle.dj_syntax.specs.Trees.{Cast}
use Rattle.dj_names.specs.Types.{view_type}
use Rattle.dj_rebuilt.specs.Nodes.{convert_node}
use Rattle.dj_pending.specs.Stacks.{stacked}
use Rattle.dj_pending.specs.Spilling.{behind}
use Rattle.dj_pending.proofs.NumberLemmas.{one-is}
use Rattle.dj_pending.proofs.built.Built.convert_int.Goals as goal

pub returns : goal.returns
returns c = record { built = c.in_ok-done.ensures.built ∙ ap (behind (view_stms c.args.self.now.emitted)) (one-is (convert_node (view_type c.args.to)) false (view_type c.args.to) (Cast (view_type c.args.to)) c.args.self.now.next (stacked c.args.self.now.stack) (λ one. refl)) }
