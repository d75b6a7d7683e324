use Rattle.dj_syntax.specs.Trees.{view_stms}
use Rattle.dj_pending.specs.Stacks.{stacked}
use Rattle.dj_pending.proofs.StepLemmas.{grown-behind}
use Rattle.dj_rebuild.proofs.advancing.build.Goals as goal

pub returns-in-Nop : goal.returns-in-Nop
returns-in-Nop c = record { built = rw c.in-Nop.is (grown-behind (view_stms c.args.built.now.emitted) c.args.built.now.next (stacked c.args.built.now.stack)) }
