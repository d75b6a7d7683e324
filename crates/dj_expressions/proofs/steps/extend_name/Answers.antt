use Rattle.std.proofs.Common.{ap}
use Rattle.dj_grammar.specs.Readings.{Named}
use Rattle.dj_expressions.specs.Views.{view_open}
use Rattle.dj_expressions.proofs.steps.extend_name.Goals as goal

pub returns-in-Ok : goal.returns-in-Ok
returns-in-Ok c = record { extended = ap (λ name. Named name (view_open c.args.pending)) c.in-Ok.ensures.extended }
