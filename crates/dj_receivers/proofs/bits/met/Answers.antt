use Rattle.dj_receivers.proofs.Turned.{met_all}
use Rattle.dj_receivers.proofs.bits.met.Goals as goal

pub returns-clause-met : goal.returns-clause-met
returns-clause-met c = met_all c.args.known.now c.args.marks.now c.args.height c.loop-place.place c.loop-place.found c.loop-place-test.false c.loop-place.auto.place-end c.loop-place.invariant
