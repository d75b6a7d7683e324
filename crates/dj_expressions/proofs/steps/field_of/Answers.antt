use Rattle.std.proofs.Common.{ap}
use Rattle.dj_grammar.specs.Readings.{Stands}
use Rattle.dj_expressions.specs.Views.{view_open}
use Rattle.dj_expressions.proofs.steps.field_of.Goals as goal

pub returns-in-Ok : goal.returns-in-Ok
returns-in-Ok c = record { field = ap (λ value. Stands value (view_open c.args.pending)) c.in-Ok.ensures.field }
