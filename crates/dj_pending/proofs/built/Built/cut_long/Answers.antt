use Rattle.std.proofs.Common.{true, refl, ap, ◌∙◌}
use Rattle.dj_syntax.specs.Trees.{view_stms}
use Rattle.dj_syntax.specs.Trees.{Cast}
use Rattle.dj_names.specs.Types.{JType, Int}
use Rattle.dj_rebuilt.specs.Nodes.{cut_node}
use Rattle.dj_pending.specs.Stacks.{stacked}
use Rattle.dj_pending.specs.Spilling.{behind}
use Rattle.dj_pending.specs.Numbers.{one_built}
use Rattle.dj_pending.proofs.NumberLemmas.{one-is}
use Rattle.dj_pending.proofs.built.Built.cut_long.Goals as goal

pub returns : goal.returns
returns c = record {
  built = c.in_ok-done.ensures.built
      ∙ ap (λ (type : JType). behind (view_stms c.args.self.now.emitted) (one_built true type (Cast type) c.args.self.now.next (stacked c.args.self.now.stack))) c.number_type-kind.ensures.kind
      ∙ ap (behind (view_stms c.args.self.now.emitted)) (one-is cut_node true Int (Cast Int) c.args.self.now.next (stacked c.args.self.now.stack) (λ one. refl));
}
