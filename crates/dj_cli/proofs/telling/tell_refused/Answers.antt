use Rattle.std.proofs.Common.{refl, ◌≡◌}
use Rattle.dj_report.specs.Report.{RefusedClass, line_text}
use Rattle.dj_cli.specs.Pieces.{refused_piece}
use Rattle.dj_cli.proofs.TellingLemmas.{cuts-line, refused-some, tells-line}
use Rattle.dj_cli.proofs.telling.tell_refused.Goals as goal

pub returns-in-Ok-clause-told : goal.returns-in-Ok-clause-told
returns-in-Ok-clause-told g c = λ text.
    let class = c.args.class.now in
    let cause = c.args.cause.now in
    let methods = c.args.methods in
    tells-line (λ told. told ≡ refused_piece class cause methods) (line_text (RefusedClass class cause)) methods refl text c.line_tally.ensures.tally (refused-some class cause) (rw (c.as_str.ensures.value, c.in_ok-tail.ensures.tail) at c.in-Ok.ensures.puts)

pub returns-clause-stopped : goal.returns-clause-stopped
returns-clause-stopped g c = λ text.
    let class = c.args.class.now in
    let cause = c.args.cause.now in
    let methods = c.args.methods in
    cuts-line (λ told. told ≡ refused_piece class cause methods) (line_text (RefusedClass class cause)) methods refl text (rw (c.as_str.ensures.value, c.in_ok-tail.ensures.tail) at c.in-Err.ensures.puts)
