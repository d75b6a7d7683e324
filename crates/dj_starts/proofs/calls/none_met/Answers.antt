use Rattle.std.proofs.Common.{arith}
use Rattle.std.proofs.lemmas.List.{length_push}
use Rattle.dj_starts.specs.declared.calls.Met.TheVariants.{No}
use Rattle.dj_starts.proofs.Constructing.{none_push}
use Rattle.dj_starts.proofs.calls.none_met.Goals as goal

pub loop-preserved : goal.loop-preserved
loop-preserved c = rw c.in_ok-push.ensures.ok record {
  len = omega (arith, length_push c.loop.calls No, c.loop.invariant.len);
  none = λ start. none_push c.loop.calls start (c.loop.invariant.none start);
}
