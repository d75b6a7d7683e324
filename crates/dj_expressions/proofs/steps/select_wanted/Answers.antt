use Rattle.std.proofs.Common.{ap, sym}
use Rattle.dj_grammar.specs.Steps.{at_joint, select_joint}
use Rattle.dj_expressions.proofs.steps.select_wanted.Goals as goal

pub returns-in-Some : goal.returns-in-Some
returns-in-Some c = record { selects = rw (sym c.in-Some.ensures.waiting) c.select_joint.ensures.selects }

pub returns-in-None : goal.returns-in-None
returns-in-None c = record { selects = ap (at_joint select_joint) c.in-None.ensures.waiting }
