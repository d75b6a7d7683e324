use Rattle.std.proofs.Common.{refl}
use Rattle.dj_receivers.proofs.Visiting.{kept_past}
use Rattle.dj_receivers.proofs.walking.restore.Goals as goal

pub returns-in-None : goal.returns-in-None
returns-in-None c = record {
  restores = record { table = refl; waiting = refl; calls = refl; some = λ wrong. absurd cc; none = λ is. kept_past c.args.marking.now.table c.args.pc c.in-None.ensures.value };
}
