use Rattle.std.proofs.Common.{[], ◌∷◌, reverse, ap, ◌∙◌}
use Rattle.std.proofs.lemmas.List.{reverse-append}
use Rattle.dj_expressions.proofs.steps.with_label.Goals as goal

pub returns : goal.returns
returns c = record { more = ap reverse c.in_ok-push.ensures.ok ∙ reverse-append c.args.labels (c.args.label ∷ []) }
