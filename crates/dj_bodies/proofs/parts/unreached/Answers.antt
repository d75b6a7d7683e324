use Rattle.std.proofs.Common.{subst}
use Rattle.dj_reach.specs.Faults.{IsFaultOf}
use Rattle.dj_bodies.proofs.PartLemmas.{unreached_first}
use Rattle.dj_bodies.proofs.parts.unreached.Goals as goal

pub returns-in-Err-Unreached : goal.returns-in-Err-Unreached
returns-in-Err-Unreached c = record {
  tells = λ rules are kept broken. unreached_first rules c.in-Err-Unreached.place are (subst (IsFaultOf rules) (rw c.in-Err-Unreached.is at c.in-Err-Unreached.field-0-is) (rw c.in-Err-Unreached.is at broken));
}
