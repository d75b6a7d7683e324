use Rattle.std.proofs.Common.{reverse}
use Rattle.dj_receivers.proofs.Weights.{lowered_none, lowered_some}
use Rattle.dj_receivers.proofs.marking.lowered.Goals as goal

pub returns-in_ok-found-in-None : goal.returns-in_ok-found-in-None
returns-in_ok-found-in-None c = record { lowered = lowered_none c.args.known.now (reverse c.args.marks.now) c.args.height c.in_ok-found-in-None.found c.in-None.is c.in_ok-found-in-None.ensures.cut c.in_ok-found-in-None.ensures.short }

pub returns-in_ok-found-in-Some : goal.returns-in_ok-found-in-Some
returns-in_ok-found-in-Some c = record {
  lowered = lowered_some c.args.known.now (reverse c.args.marks.now) c.args.height c.in-Some.known c.in_ok-found-in-Some.found c.in-Some.is (rw c.as_slice-then-has_more.ensures at c.in_ok-found-in-Some.ensures.met)
      (rw c.as_slice-then-has_more.ensures at c.in_ok-found-in-Some.ensures.size) (rw c.as_slice.ensures at (c.has_more.ensures.more c.if-has_more.true));
}
