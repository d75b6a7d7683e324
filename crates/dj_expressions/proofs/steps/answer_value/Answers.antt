use Rattle.std.proofs.Common.{ap, sym}
use Rattle.dj_syntax.specs.Trees.{view_exp}
use Rattle.dj_grammar.specs.Steps.{answer_joint, at_joint}
use Rattle.dj_expressions.proofs.steps.answer_value.Goals as goal

pub returns-in-Some : goal.returns-in-Some
returns-in-Some c = record { answers = rw (sym c.in-Some.ensures.waiting) c.answer_joint.ensures.answers }

pub returns-in-None : goal.returns-in-None
returns-in-None c = record { answers = ap (at_joint (answer_joint (view_exp c.args.value))) c.in-None.ensures.waiting }
