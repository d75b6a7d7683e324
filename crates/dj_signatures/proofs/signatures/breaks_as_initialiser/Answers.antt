use Rattle.std.proofs.Common.{sym, ◌∙◌}
use Rattle.dj_signatures.proofs.signatures.breaks_as_initialiser.Goals as goal

pub returns-then-is_initialiser : goal.returns-then-is_initialiser
returns-then-is_initialiser c = record {
  breaks = (λ yes. (sym c.is_initialiser.ensures.initialiser ∙ c.if-is_initialiser.true, c.breaks_initialiser.ensures.breaks.0 yes), λ both. c.breaks_initialiser.ensures.breaks.1 both.1);
}
