use Rattle.std.proofs.Common.{arith, true}
use Rattle.std.proofs.lemmas.List.{length_push}
use Rattle.dj_receivers.proofs.Finishing.{all_push}
use Rattle.dj_receivers.proofs.calls.all_marks.Goals as goal

pub loop-preserved : goal.loop-preserved
loop-preserved c = rw c.in_ok-push.ensures.ok record {
  size = omega (arith, length_push c.loop.marks true, c.loop.invariant.size);
  all = all_push c.loop.marks c.loop.counter c.loop.invariant.size c.loop.invariant.all;
}
