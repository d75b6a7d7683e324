use Rattle.std.proofs.Common.{◌≡◌, ◌++◌, [], ◌∙◌, append-nil, ap, length, refl, take}
use Rattle.std.proofs.lemmas.Option.{same_Some}
use Rattle.std.proofs.lemmas.Result.{IfOk-weaker, err_from_is_err_and}
use lib.Seq.{take-append_seam}
use Rattle.dj_outer.proofs.PutsLemmas.{puts-as, puts-nothing, puts-stop, puts-then}
use Rattle.dj_cli.specs.Lines.{line_bytes}
use Rattle.dj_cli.proofs.endings.gather_line.Goals as goal

pub returns-in-Ok : goal.returns-in-Ok
returns-in-Ok g c =
    let old = c.args.gathered.now.bytes.items in
    let piece = line_bytes c.args.class.now c.args.line.now in
    record {
      gathers = record {
        front = [];
        back = old ++ piece;
        both = refl;
        puts = puts-nothing (g.P.Sink.taken c.args.report.now) (g.P.Sink.faults c.args.report.now);
        gathered = same_Some c.put_line.new.report.bytes.items (old ++ piece) c.in-Ok.ensures.puts.ok;
      };
    }

pub returns-in_err-put_piece : goal.returns-in_err-put_piece
returns-in_err-put_piece g c =
    let is = (err_from_is_err_and c.from_residual.result c.from_residual.ensures.1).1 in
    let old = c.args.gathered.now.bytes.items in
    let piece = line_bytes c.args.class.now c.args.line.now in
    let cut = c.in_default.ensures.puts.prefix in
    let left : c.truncate.new.self.items ≡ old = c.truncate.ensures.items ∙ rw c.len-before.ensures.value (ap (take (length old)) (same_Some c.put_line.new.report.bytes.items (old ++ take cut.0 piece) cut.1) ∙ take-append_seam old (take cut.0 piece)) in
    record {
      gathers = record {
        front = old ++ piece;
        back = [];
        both = append-nil (old ++ piece);
        puts = puts-stop is piece (puts-as (c.as_slice.ensures.value ∙ left) c.in_err-put_piece.ensures.puts);
        gathered = rw is tt;
      };
    }

pub returns : goal.returns
returns g c =
    let old = c.args.gathered.now.bytes.items in
    let piece = line_bytes c.args.class.now c.args.line.now in
    let cut = c.in_default.ensures.puts.prefix in
    let left : c.truncate.new.self.items ≡ old = c.truncate.ensures.items ∙ rw c.len-before.ensures.value (ap (take (length old)) (same_Some c.put_line.new.report.bytes.items (old ++ take cut.0 piece) cut.1) ∙ take-append_seam old (take cut.0 piece)) in
    record {
      gathers = record {
        front = old ++ piece;
        back = [];
        both = append-nil (old ++ piece);
        puts = puts-then (puts-as (c.as_slice.ensures.value ∙ left) c.in_ok-put_piece.ensures.puts) c.put_line-2.ensures.puts;
        gathered = IfOk-weaker c.put_line-2.result _ _ (λ done taken. c.clear.ensures) c.put_line-2.ensures.puts.ok;
      };
    }
