use Rattle.std.proofs.Common.{sym, ◌∙◌}
use Rattle.dj_world.proofs.wanted.Wanted.is_superclass.Goals as goal

pub returns : goal.returns
returns c = record {
  exact = λ headers knows. (λ yes. (knows.superclasses c.args.class.now).0 (sym c.contains.ensures ∙ yes), λ some. c.contains.ensures ∙ (knows.superclasses c.args.class.now).1 some);
}
