use Rattle.std.proofs.Common.{ap}
use Rattle.dj_grammar.specs.Readings.{Declared}
use Rattle.dj_expressions.specs.Views.{view_open}
use Rattle.dj_expressions.proofs.steps.declare.Goals as goal

pub returns-in-Ok : goal.returns-in-Ok
returns-in-Ok c = record { declared = ap (λ kind. Declared kind c.args.variable (view_open c.args.pending)) c.in-Ok.ensures.kind }
