use Rattle.dj_syntax.specs.Trees.{view_stms}
use Rattle.dj_pending.specs.Stacks.{stacked}
use Rattle.dj_rebuild.proofs.Spilled.{spilled-not}
use Rattle.dj_rebuild.proofs.around.spill_if.Goals as goal

pub returns-then-not-wanted : goal.returns-then-not-wanted
returns-then-not-wanted c = record { spilled = spilled-not (view_stms c.args.built.now.emitted) c.args.wanted c.args.built.now.next (stacked c.args.built.now.stack) c.if-not-wanted.true }
