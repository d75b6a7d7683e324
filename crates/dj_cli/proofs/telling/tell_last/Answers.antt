use Rattle.std.proofs.Common.{[], ◌==◌, ◌∙◌, ap, refl, take}
use Rattle.dj_outer.proofs.PutsLemmas.{known-nothing}
use Rattle.dj_cli.specs.Pieces.{end_piece}
use Rattle.dj_cli.proofs.TellingLemmas.{told-lines}
use Rattle.dj_cli.proofs.telling.tell_last.Goals as goal

pub returns-in-Ok-put_some-clause-told : goal.returns-in-Ok-put_some-clause-told
returns-in-Ok-put_some-clause-told g c =
    let piece = c.args.piece.now in
    let text = rw c.as_slice.ensures.value at c.in-Ok.ensures.puts in
    let lines = rw c.as_slice-2.ensures.value at c.in-Ok-put_some.ensures.puts in
    record {
      piece = end_piece piece;
      is = refl;
      text_taken = text.ok;
      report_taken = lines.ok;
      has_line_is = told-lines piece.lines.items c.is_empty.result (c.is_empty.ensures ∙ ap (λ count. count == 0) piece.lines.ok.0);
      printed_is = refl;
      refused_is = refl;
    }

pub returns-in-Err-clause-stopped : goal.returns-in-Err-clause-stopped
returns-in-Err-clause-stopped g c =
    let piece = end_piece c.args.piece.now in
    let cut = (rw c.as_slice.ensures.value at c.in-Err.ensures.puts).prefix in
    record {
      piece = piece;
      is = refl;
      text = take cut.0 piece.text;
      lines = [];
      front = (cut.0, refl, refl);
      text_taken = cut.1;
      report_taken = known-nothing (g.P.Sink.taken c.args.report.now);
    }

pub returns-in-Err-put_some-clause-stopped : goal.returns-in-Err-put_some-clause-stopped
returns-in-Err-put_some-clause-stopped g c =
    let piece = end_piece c.args.piece.now in
    let text = rw c.as_slice.ensures.value at c.in-Ok.ensures.puts in
    let cut = (rw c.as_slice-2.ensures.value at c.in-Err-put_some.ensures.puts).prefix in
    record {
      piece = piece;
      is = refl;
      text = piece.text;
      lines = take cut.0 piece.lines;
      front = (cut.0, refl, refl);
      text_taken = text.ok;
      report_taken = cut.1;
    }
