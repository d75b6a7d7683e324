use Rattle.std.proofs.Common.{◌==◌, ap, ◌∙◌}
use Rattle.dj_cli.proofs.TellingLemmas.{either-has-line}
use Rattle.dj_cli.proofs.telling.has_line.Goals as goal

pub returns : goal.returns
returns c = record {
  line = λ class.
      either-has-line class c.args.piece.now.fields.items c.args.piece.now.methods.items c.is_empty-fields.result c.is_empty-methods.result (c.is_empty-fields.ensures ∙ ap (λ count. count == 0) c.args.piece.now.fields.ok.0)
      (c.is_empty-methods.ensures ∙ ap (λ count. count == 0) c.args.piece.now.methods.ok.0);
}
