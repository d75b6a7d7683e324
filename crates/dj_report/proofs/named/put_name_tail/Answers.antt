use Rattle.std.proofs.Common.{[], ◌∷◌}
use Rattle.std.proofs.lemmas.Result.{err_from_is_err_and}
use Rattle.dj_names.specs.Shown.{show_units}
use Rattle.dj_outer.proofs.PutsLemmas.{puts-on, puts-stop, puts-then}
use Rattle.dj_report.proofs.named.put_name_tail.Goals as goal

pub returns-in_err-put_piece : goal.returns-in_err-put_piece
returns-in_err-put_piece g c =
    let is = (err_from_is_err_and c.from_residual.result c.from_residual.ensures.1).1 in
    record { puts = puts-on is (10 ∷ []) (puts-stop is (show_units c.args.name.now) c.in_err-put_piece.ensures.puts) }

pub returns-in_err-put_units : goal.returns-in_err-put_units
returns-in_err-put_units g c =
    let is = (err_from_is_err_and c.from_residual-in_err-put_units.result c.from_residual-in_err-put_units.ensures.1).1 in
    record { puts = puts-stop is (10 ∷ []) (puts-then c.in_ok-put_piece.ensures.puts (rw c.as_slice.ensures.units at c.in_err-put_units.ensures.puts)) }

pub returns : goal.returns
returns g c =
    let name = rw c.as_slice.ensures.units at c.in_ok-put_units.ensures.puts in
    record { puts = puts-then (puts-then c.in_ok-put_piece.ensures.puts name) c.put_piece-2.ensures.puts }
