use Rattle.std.proofs.Common.{add-one}
use Rattle.dj_machine.proofs.SlotLemmas.{slots_more, slots_all}
use Rattle.dj_machine.proofs.locals.push_arguments.Goals as goal

pub loop-argument-preserved : goal.loop-argument-preserved
loop-argument-preserved c = rw add-one (slots_more c.args.arguments.now c.loop-argument.argument-index _ _ _ _ c.loop-argument-test.true c.argument-item.is c.in_ok-push_argument.ensures.pushed c.loop-argument.invariant)

pub returns : goal.returns
returns c = record { pushed = slots_all c.args.arguments.now c.loop-argument.argument-index _ _ c.loop-argument-test.false c.loop-argument.invariant }
