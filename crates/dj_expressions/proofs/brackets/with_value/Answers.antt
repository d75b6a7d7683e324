use Rattle.std.proofs.Common.{[], ◌∷◌, map, ap, ◌∙◌}
use Rattle.std.proofs.lemmas.List.{map-append}
use Rattle.dj_syntax.specs.Trees.{view_exp}
use Rattle.dj_expressions.proofs.brackets.with_value.Goals as goal

pub returns : goal.returns
returns c = record { more = ap (map view_exp) c.in_ok-push.ensures.ok ∙ map-append view_exp c.args.values (c.args.value ∷ []) }
