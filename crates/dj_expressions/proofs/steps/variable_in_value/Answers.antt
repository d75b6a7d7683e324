use Rattle.std.proofs.Common.{sym}
use Rattle.dj_expressions.proofs.ValueLemmas.{variable_in_value-other}
use Rattle.dj_expressions.proofs.steps.variable_in_value.Goals as goal

pub returns-in_default : goal.returns-in_default
returns-in_default c = record { variable = sym (variable_in_value-other c.args.value.now c.in_default.not-Var) }
