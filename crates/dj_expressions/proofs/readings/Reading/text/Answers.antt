use Rattle.std.proofs.Common.{ap, ◌∙◌}
use Rattle.std.specs.Prelude.{option_map}
use Rattle.dj_syntax.specs.Trees.{Text}
use Rattle.dj_tokens.specs.Literals.{unquoted}
use Rattle.dj_grammar.specs.Steps.{stand}
use Rattle.dj_expressions.specs.Views.{view_open}
use Rattle.dj_expressions.proofs.MadeLemmas.{made-text}
use Rattle.dj_expressions.proofs.readings.Reading.text.Goals as goal

pub returns : goal.returns
returns c = record {
  text =
      c.stand_in.ensures.stands
      ∙ ap (λ value. stand value (option_map view_open c.in_ok-pending.pending)) (made-text c.in_ok-units.units (unquoted c.args.word.now) c.in_ok-units.ensures.units)
      ∙ ap (stand (Text (unquoted c.args.word.now))) c.in_ok-pending.ensures.wanted;
}
