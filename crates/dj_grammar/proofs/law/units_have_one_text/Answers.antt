use Rattle.dj_grammar.proofs.OneText.{units_have_one_text}
use Rattle.dj_grammar.proofs.law.units_have_one_text.Goals as goal

pub returns : goal.returns
returns c = record { one_text = units_have_one_text }
