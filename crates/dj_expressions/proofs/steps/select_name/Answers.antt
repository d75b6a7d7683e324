use Rattle.std.proofs.Common.{ap}
use Rattle.dj_grammar.specs.Readings.{Selecting}
use Rattle.dj_expressions.specs.Views.{view_open}
use Rattle.dj_expressions.proofs.steps.select_name.Goals as goal

pub returns-in-Ok : goal.returns-in-Ok
returns-in-Ok c = record { selects = ap (λ value. Selecting value (view_open c.args.outer)) c.in-Ok.ensures.value }
