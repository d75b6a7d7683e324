use Rattle.std.proofs.lemmas.Result.{err_from_is_err_and}
use Rattle.dj_report.proofs.ShownLemmas.{put-more, put-stop}
use Rattle.dj_report.proofs.putting.put_units.Goals as goal

pub returns-in_err-put_few_units : goal.returns-in_err-put_few_units
returns-in_err-put_few_units g c = record {
  puts = put-stop c.loop-rest.invariant c.min.result (err_from_is_err_and c.from_residual.result c.from_residual.ensures.1).1 (rw c.split_at.ensures.front at c.in_err-put_few_units.ensures.puts);
}

pub loop-rest-preserved : goal.loop-rest-preserved
loop-rest-preserved g c =
    rw c.split_at.ensures.back
    (put-more c.loop-rest.invariant c.min.result (rw c.split_at.ensures.front at c.in_ok-put_few_units.ensures.puts))
