use Rattle.std.proofs.Common.{arith}
use Rattle.dj_world.proofs.WantedLemmas.{keeps_all}
use Rattle.dj_world.proofs.wanted.Wanted.read_on.Goals as goal

pub returns : goal.returns
returns c = record { keeps = c.loop-at.invariant.keeps; all = keeps_all c.args.headers.now c.loop-at.self c.loop-at.invariant.keeps (omega arith) }
