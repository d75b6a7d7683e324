use Rattle.std.proofs.Common.{arith}
use Rattle.std.proofs.lemmas.List.{length_push}
use Rattle.dj_code.specs.MethodCode.{view_typed}
use Rattle.dj_code_variables.proofs.Finding.{next-first}
use Rattle.dj_code_variables.proofs.firsts.first_frames.Goals as goal

pub loop-start-preserved : goal.loop-start-preserved
loop-start-preserved c =
    let old = c.loop-start.invariant in
    rw c.in_ok-push.ensures.ok record {
      long = (let more = length_push c.loop-start.firsts c.in_ok-first.first in let long = old.long in omega (arith, more, long));
      each = next-first (view_typed c.args.typed.now) c.args.starts.now c.loop-start.firsts c.in_ok-first.first c.loop-start.start-index old.long c.loop-start-test.true c.in_ok-first.ensures.first old.each;
    }
