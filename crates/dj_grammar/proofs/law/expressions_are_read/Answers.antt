use Rattle.std.proofs.Common.{◌≡◌, [], refl, ap, ◌∙◌, append-nil, sym}
use Rattle.dj_syntax.specs.Items.{render}
use Rattle.dj_syntax.specs.UnitText.{exp_items, full_names}
use Rattle.dj_grammar.specs.Readings.{Wanted, ended}
use Rattle.dj_grammar.specs.Steps.{read_words}
use Rattle.dj_tokens.specs.Words.{words}
use Rattle.dj_grammar.proofs.ExpressionWords.{exp_words}
use Rattle.dj_grammar.proofs.ExpressionsAreSpelled.{exp_is_spelled}
use Rattle.dj_grammar.proofs.ExpressionsAreRead.{exp_read}
use Rattle.dj_grammar.proofs.law.expressions_are_read.Goals as goal

pub returns : goal.returns
returns c = record {
  read = λ unit e well.
      ap (λ list. ended (read_words (Wanted []) list))
      (ap words (sym (append-nil (render (exp_items (full_names unit) e)))) ∙ exp_is_spelled unit e well [] refl ∙ append-nil (exp_words e))
      ∙ ((exp_read e well).ends [] (refl, refl) refl (λ is. refl)).ends;
}
