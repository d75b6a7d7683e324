use Rattle.dj_expressions.proofs.MadeLemmas.{made-test}
use Rattle.dj_expressions.proofs.readings.type_test.Goals as goal

pub returns : goal.returns
returns c = record { test = made-test c.args.operand c.in_ok-operand.operand c.args.kind c.in_ok-operand.ensures }
