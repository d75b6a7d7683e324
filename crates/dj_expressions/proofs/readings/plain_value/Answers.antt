use Rattle.std.proofs.Common.{ap}
use Rattle.dj_expressions.specs.Views.{view_open}
use Rattle.dj_expressions.proofs.readings.plain_value.Goals as goal

pub returns-in-Ok : goal.returns-in-Ok
returns-in-Ok c = record { value = ap (λ value. (value, view_open c.args.pending)) c.in-Ok.ensures.value }
