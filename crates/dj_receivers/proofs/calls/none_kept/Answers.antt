use Rattle.std.proofs.Common.{arith, Bool, List, Option, None}
use Rattle.std.proofs.lemmas.List.{length_push}
use Rattle.dj_receivers.proofs.Finishing.{none_push}
use Rattle.dj_receivers.proofs.calls.none_kept.Goals as goal

pub loop-preserved : goal.loop-preserved
loop-preserved c = rw c.in_ok-push.ensures.ok record {
  size = (let none : Option (List Bool) = None in let more = length_push c.loop.table none in omega (arith, more, c.loop.invariant.size));
  none = none_push c.loop.table c.loop.invariant.none;
}
