use Rattle.std.proofs.Common.{◌∙◌, [], take, refl}
use Rattle.dj_outer.proofs.PutsLemmas.{known-nothing}
use Rattle.dj_cli.specs.Pieces.{piece_of}
use Rattle.dj_cli.proofs.telling.tell_printed.Goals as goal

pub returns-clause-told : goal.returns-clause-told
returns-clause-told g c = record {
  piece = piece_of c.args.class.now c.args.piece.now;
  is = refl;
  text_taken = c.in_default.ensures.puts.ok;
  report_taken = c.in_default-put_report.ensures.puts.ok;
  has_line_is = c.has_line.ensures.line c.args.class.now;
  printed_is = refl;
  refused_is = c.len.ensures ∙ c.args.piece.now.methods.ok.0;
}

pub returns-in-Err-clause-stopped : goal.returns-in-Err-clause-stopped
returns-in-Err-clause-stopped g c =
    let piece = piece_of c.args.class.now c.args.piece.now in
    let cut = c.in-Err.ensures.puts.prefix in
    record {
      piece = piece;
      is = refl;
      text = take cut.0 piece.text;
      lines = [];
      front = (cut.0, refl, refl);
      text_taken = cut.1;
      report_taken = known-nothing (g.P.Sink.taken c.args.report.now);
    }

pub returns-in-Err-put_report-clause-stopped : goal.returns-in-Err-put_report-clause-stopped
returns-in-Err-put_report-clause-stopped g c =
    let piece = piece_of c.args.class.now c.args.piece.now in
    let cut = c.in-Err-put_report.ensures.puts.prefix in
    record {
      piece = piece;
      is = refl;
      text = piece.text;
      lines = take cut.0 piece.lines;
      front = (cut.0, refl, refl);
      text_taken = c.in_default.ensures.puts.ok;
      report_taken = cut.1;
    }
