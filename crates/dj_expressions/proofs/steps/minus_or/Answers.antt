use Rattle.std.proofs.Common.{sym}
use Rattle.dj_expressions.specs.Views.{view_open}
use Rattle.dj_expressions.proofs.ValueLemmas.{minus_or-other}
use Rattle.dj_expressions.proofs.steps.minus_or.Goals as goal

pub returns-in_default : goal.returns-in_default
returns-in_default c = record { minus = sym (minus_or-other c.args.operator (view_open c.args.pending) c.in_default.not-Sub) }
