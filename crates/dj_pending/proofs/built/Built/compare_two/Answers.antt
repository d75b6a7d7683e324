use Rattle.std.proofs.Common.{ap, ◌∙◌}
use Rattle.dj_syntax.specs.Trees.{view_stms}
use Rattle.dj_pending.specs.Stacks.{stacked}
use Rattle.dj_pending.specs.Spilling.{behind}
use Rattle.dj_pending.proofs.NumberLemmas.{compared-is}
use Rattle.dj_pending.proofs.built.Built.compare_two.Goals as goal

pub returns : goal.returns
returns c = record { built = c.in_ok-done.ensures.built ∙ ap (behind (view_stms c.args.self.now.emitted)) (compared-is c.args.self.now.next (stacked c.args.self.now.stack)) }
