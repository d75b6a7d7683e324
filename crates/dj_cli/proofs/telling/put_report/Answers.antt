use Rattle.std.proofs.lemmas.Result.{err_from_is_err_and}
use Rattle.dj_outer.proofs.PutsLemmas.{puts-stop, puts-then}
use Rattle.dj_cli.specs.Lines.{lines_bytes}
use Rattle.dj_cli.proofs.telling.put_report.Goals as goal

pub returns-in_err-put_lines : goal.returns-in_err-put_lines
returns-in_err-put_lines g c =
    let is = (err_from_is_err_and c.from_residual.result c.from_residual.ensures.1).1 in
    record { puts = puts-stop is (lines_bytes c.args.class.now c.args.piece.now.methods.items) (rw c.as_slice.ensures.value at c.in_err-put_lines.ensures.puts) }

pub returns : goal.returns
returns g c =
    let fields = rw c.as_slice.ensures.value at c.in_ok-put_lines.ensures.puts in
    let methods = rw c.as_slice-2.ensures.value at c.put_lines-2.ensures.puts in
    record { puts = puts-then fields methods }
