use Rattle.dj_outer.proofs.PutsLemmas.{puts-then}
use Rattle.dj_cli.proofs.telling.put_text.Goals as goal

pub returns : goal.returns
returns g c =
    let line = rw c.as_slice.ensures.value at c.in_ok-put_piece.ensures.puts in
    let unit = rw c.as_slice-2.ensures.value at c.put_piece-2.ensures.puts in
    record { puts = puts-then line unit }
