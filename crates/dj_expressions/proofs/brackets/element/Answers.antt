use Rattle.dj_expressions.proofs.MadeLemmas.{made-element}
use Rattle.dj_expressions.proofs.brackets.element.Goals as goal

pub returns-in_ok-index-in-Ok : goal.returns-in_ok-index-in-Ok
returns-in_ok-index-in-Ok c = record { element = made-element c.args.array c.in-Ok.array c.args.index c.in_ok-index-in-Ok.index c.in-Ok.ensures c.in_ok-index-in-Ok.ensures }
