use Rattle.std.proofs.Common.{◌+◌, ◌<◌, ◌≡◌, [], ◌∷◌, ◌++◌, ◌∙◌, append-nil, ap, length, drop, sym, take, arith}
use Rattle.std.proofs.lemmas.List.{take_all, take_more}
use Rattle.std.proofs.lemmas.Result.{err_from_is_err_and}
use Rattle.dj_outer.proofs.PutsLemmas.{puts-as, puts-nothing, puts-stop, puts-then}
use Rattle.dj_cli.specs.Lines.{line_bytes, lines_bytes}
use Rattle.dj_report.proofs.ShownLemmas.{parts-at}
use Rattle.dj_cli.proofs.TellingLemmas.{gathered-on, lines_bytes-push}
use Rattle.dj_cli.proofs.endings.put_lines.Goals as goal

pub loop-line-init : goal.loop-line-init
loop-line-init g c = record {
  front = [];
  puts = puts-nothing (g.P.Sink.taken c.args.report.now) (g.P.Sink.faults c.args.report.now);
  both = c.new-gathered.ensures.none;
}

pub returns-in_err-gather_line : goal.returns-in_err-gather_line
returns-in_err-gather_line g c =
    let lines = c.args.lines.now in
    let i = c.loop-line.line-index in
    let inside : i < length lines = omega arith in
    let class = c.args.class.now in
    let before = c.loop-line.invariant in
    let one = c.in_err-gather_line.ensures.gathers in
    let rest = lines_bytes class (drop (i + 1) lines) in
    record {
      puts = puts-as (gathered-on before.front _ _ one.front one.back (line_bytes class c.line-item.result) rest before.both one.both ∙ parts-at (line_bytes class) lines i c.line-item.result inside c.line-item.is)
          (puts-stop (err_from_is_err_and c.from_residual.result c.from_residual.ensures.1).1 (one.back ++ rest) (puts-then before.puts one.puts));
    }

pub loop-line-preserved : goal.loop-line-preserved
loop-line-preserved g c =
    let lines = c.args.lines.now in
    let i = c.loop-line.line-index in
    let line = c.line-item.result in
    let inside : i < length lines = omega arith in
    let class = c.args.class.now in
    let before = c.loop-line.invariant in
    let one = c.in_ok-gather_line.ensures.gathers in
    let more : lines_bytes class (take (i + 1) lines) ≡ lines_bytes class (take i lines) ++ line_bytes class line = ap (lines_bytes class) (take_more lines i line inside ∙ ap (λ last. take i lines ++ last ∷ []) (sym c.line-item.is)) ∙ lines_bytes-push class (take i lines) line in
    let on = gathered-on before.front _ _ one.front one.back (line_bytes class line) [] before.both one.both in
    record {
      front = before.front ++ one.front;
      puts = puts-then before.puts one.puts;
      both = ap (λ back. before.front ++ one.front ++ back) (one.gathered ∙ sym (append-nil one.back)) ∙ on ∙ append-nil (lines_bytes class (take i lines) ++ line_bytes class line) ∙ sym more;
    }

pub returns : goal.returns
returns g c =
    let before = c.loop-line.invariant in
    let class = c.args.class.now in
    let all = ap (lines_bytes class) (take_all c.loop-line.line-index c.args.lines.now (omega arith)) in
    record { puts = puts-as (before.both ∙ all) (puts-then before.puts (rw c.as_slice.ensures.value at c.put_piece.ensures.puts)) }
