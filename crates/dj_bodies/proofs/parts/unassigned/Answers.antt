use Rattle.std.proofs.Common.{subst}
use Rattle.dj_assigned.specs.Faults.{IsFaultOf}
use Rattle.dj_bodies.proofs.PartLemmas.{unassigned_first}
use Rattle.dj_bodies.proofs.parts.unassigned.Goals as goal

pub returns-in-Err-Unassigned : goal.returns-in-Err-Unassigned
returns-in-Err-Unassigned c = record {
  tells = λ rules are kept broken. unassigned_first rules c.in-Err-Unassigned.place are (subst (IsFaultOf rules) (rw c.in-Err-Unassigned.is at c.in-Err-Unassigned.field-0-is) (rw c.in-Err-Unassigned.is at broken));
}
