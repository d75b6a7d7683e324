use Rattle.std.proofs.lemmas.Result.{err_from_is_err_and}
use Rattle.dj_outer.proofs.PutsLemmas.{puts-stop, puts-then}
use Rattle.dj_report.proofs.refused.put_refused_class_line.Goals as goal

pub returns-in_err-put_units : goal.returns-in_err-put_units
returns-in_err-put_units g c =
    let is = (err_from_is_err_and c.from_residual.result c.from_residual.ensures.1).1 in
    record { puts = puts-stop is c.args.tail.now (rw c.as_slice.ensures.units at c.in_err-put_units.ensures.puts) }

pub returns : goal.returns
returns g c =
    let class = rw c.as_slice.ensures.units at c.in_ok-put_units.ensures.puts in
    let tail = rw c.as_bytes.ensures.value at c.put_piece.ensures.puts in
    record { puts = puts-then class tail }
