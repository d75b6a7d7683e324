use Rattle.std.proofs.Common.{sym}
use Rattle.dj_expressions.proofs.steps.answer_joint.Goals as goal

pub returns : goal.returns
returns c = record { answers = rw (sym c.asked-test.ensures.asked) c.answer_test.ensures.answers }
