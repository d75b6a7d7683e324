use Rattle.std.proofs.Common.{codes}
use Rattle.std.proofs.lemmas.Result.{err_from_is_err_and}
use Rattle.dj_outer.proofs.PutsLemmas.{puts-as, puts-stop, puts-then}
use Rattle.dj_report.proofs.ShownLemmas.{show-class}
use Rattle.dj_report.proofs.putting.descriptors.put_class.Goals as goal

pub returns-in_err-put_units : goal.returns-in_err-put_units
returns-in_err-put_units g c = record {
  puts = puts-as (show-class c.args.name.now)
      (puts-stop (err_from_is_err_and c.from_residual-in_err-put_units.result c.from_residual-in_err-put_units.ensures.1).1 (codes ";") (puts-then c.in_ok-put_piece.ensures.puts (rw c.as_slice.ensures.units at c.in_err-put_units.ensures.puts)));
}

pub returns : goal.returns
returns g c = record {
  puts = puts-as (show-class c.args.name.now)
      (puts-then (puts-then c.in_ok-put_piece.ensures.puts (rw c.as_slice.ensures.units at c.in_ok-put_units.ensures.puts)) c.put_piece-2.ensures.puts);
}
